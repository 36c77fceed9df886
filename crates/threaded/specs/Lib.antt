pub mod Joined
pub mod Running
pub mod Streaming
