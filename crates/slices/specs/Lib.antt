pub mod Over
pub mod Pad
pub mod Filled
pub mod Every
pub mod Lookup
pub mod Test
