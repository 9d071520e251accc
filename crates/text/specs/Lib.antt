-- The definitions that the contracts cite.
pub mod Refusals
pub mod Words
pub mod Pieces
pub mod Continue
pub mod Read
pub mod Lines
pub mod Seats
pub mod Written
