pub mod Arrows
pub mod Escaped
pub mod Markup
pub mod Vectors
