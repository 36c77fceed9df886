pub mod Backward
pub mod Open
pub mod Parts
pub mod Rules
pub mod Spans
pub mod Standing
pub mod View
