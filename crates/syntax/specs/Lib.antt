pub mod Classes
pub mod Depths
pub mod Pieces
pub mod ReadingStatements
pub mod Squeezing
pub mod Statements
pub mod Views
