pub mod BarLoop
