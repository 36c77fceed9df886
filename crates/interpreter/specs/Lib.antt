pub mod Answers
pub mod Fast
pub mod Halts
pub mod Kept
pub mod Lowered
