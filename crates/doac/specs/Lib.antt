pub mod Commands
pub mod Deeds
pub mod Following
pub mod Making
pub mod Models
pub mod Pictures
pub mod Running
pub mod Statuses
