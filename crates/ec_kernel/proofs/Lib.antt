pub mod Beginning
pub mod Lists
pub mod Steps
pub mod Waking
