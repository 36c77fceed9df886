pub mod Calls
pub mod Left
pub mod Reached
pub mod Refused
pub mod Telling
