pub mod Handing
pub mod View
pub mod Whole
