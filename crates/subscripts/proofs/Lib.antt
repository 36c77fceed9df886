pub mod Meaning
pub mod Products
pub mod Propers
pub mod Putting
pub mod Rooms
pub mod Sums
