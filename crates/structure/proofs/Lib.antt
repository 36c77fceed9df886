pub mod Agreement
pub mod Behind
pub mod Broken
pub mod Exactly
pub mod Parts
