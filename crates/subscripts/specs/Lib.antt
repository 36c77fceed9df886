pub mod Forms
pub mod Leaves
pub mod Proper
pub mod SharesView
pub mod Steps
pub mod Values
pub mod View
