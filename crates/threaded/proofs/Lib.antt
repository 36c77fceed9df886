pub mod Answered
mod Streamed
