pub mod Lines
pub mod Modelling
