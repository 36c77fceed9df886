pub mod Empty
pub mod Lists
pub mod Places
pub mod Table
