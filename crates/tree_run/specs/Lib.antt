pub mod Answers
pub mod Executing
pub mod Placed
pub mod Printing
pub mod Runs
pub mod Shapes
pub mod Steps
pub mod View
