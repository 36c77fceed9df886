pub mod Appending
pub mod Noting
