pub mod Delivered
pub mod Made
pub mod Onto
pub mod Reading
pub mod Statuses
