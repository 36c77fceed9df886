pub mod Flaw
pub mod Kept
pub mod Noting
pub mod Reading
pub mod Refusals
pub mod Schedules
pub mod View
