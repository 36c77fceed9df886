pub mod Dependences
pub mod Drawn
pub mod Looks
pub mod Runs
pub mod Sketches
pub mod Times
