pub mod Followed
pub mod Shown
