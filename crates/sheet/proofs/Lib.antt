pub mod Counts
pub mod StreamLaws
pub mod RowLaws
