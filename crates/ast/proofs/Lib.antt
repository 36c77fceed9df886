pub mod Bools
pub mod Calls
pub mod Cells
pub mod Digits
pub mod Fitting
pub mod Lists
mod Names
pub mod Nodes
pub mod Numbers
pub mod Places
pub mod Records
pub mod References
pub mod SameNames
pub mod Sizes
pub mod Stops
pub mod Symbols
pub mod Terms
pub mod Trips
