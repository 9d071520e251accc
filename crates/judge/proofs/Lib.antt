-- The lemmas of the proofs.
pub mod Ints
pub mod SumLaws
pub mod Lowest
