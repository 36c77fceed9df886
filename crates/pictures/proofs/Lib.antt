pub mod Groups
pub mod Sketching
