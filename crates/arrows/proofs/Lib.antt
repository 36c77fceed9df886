pub mod Appended
pub mod Escapes
