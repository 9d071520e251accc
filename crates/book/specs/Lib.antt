pub mod Refusals
pub mod Places
pub mod Quotes
pub mod Books
pub mod Writing
pub mod Written
pub mod Goals
pub mod Judgings
