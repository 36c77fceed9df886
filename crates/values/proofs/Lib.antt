pub mod Dividing
pub mod Scanning
