pub mod Answers
pub mod Characters
pub mod Grammar
pub mod Levels
pub mod Ranks
pub mod Reading
pub mod Real
