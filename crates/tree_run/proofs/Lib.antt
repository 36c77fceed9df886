pub mod Blocks
pub mod Cells
pub mod Evaluating
pub mod Finding
pub mod Items
pub mod Offsets
pub mod Placing
pub mod Seats
mod TermValues
pub mod Values
