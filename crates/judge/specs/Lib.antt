pub mod Refusals
pub mod Papers
pub mod Sums
pub mod Outcomes
pub mod Weighings
