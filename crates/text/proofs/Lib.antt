-- The lemmas of the proofs.
pub mod WordLaws
pub mod CutLaws
pub mod SeatLaws
pub mod LineLaws
pub mod DigitLaws
