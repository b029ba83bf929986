pub mod Clauses
pub mod InterchangeLaws
pub mod ChoosingLaws
pub mod RebuildLaws
