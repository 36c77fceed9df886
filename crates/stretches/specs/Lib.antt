pub mod Notes
pub mod Guesses
pub mod Reached
pub mod Stretches
