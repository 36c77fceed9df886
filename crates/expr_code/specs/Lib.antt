pub mod Alone
pub mod Computes
pub mod Emitted
pub mod Places
pub mod PlacesView
pub mod Process
