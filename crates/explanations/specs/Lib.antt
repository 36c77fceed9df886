pub mod Explained
pub mod Faults
