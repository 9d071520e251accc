pub mod Rows
pub mod Kind
pub mod Parts
pub mod Streams
pub mod Ends
pub mod Kinds
pub mod SheetLimits
