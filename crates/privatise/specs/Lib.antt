pub mod Cells
pub mod Flow
pub mod Privates
pub mod Walks
