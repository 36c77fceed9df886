pub mod Figures
pub mod Records
pub mod Timed
pub mod Turns
pub mod Units
