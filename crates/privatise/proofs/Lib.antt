pub mod ByCell
pub mod Changes
pub mod Exactly
pub mod Flows
pub mod Forward
pub mod Passed
