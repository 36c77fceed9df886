pub mod Outcomes
pub mod Reading
pub mod Shown
pub mod Status
pub mod View
