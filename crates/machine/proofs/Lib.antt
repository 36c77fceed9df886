pub mod Actions
pub mod Along
pub mod Dots
pub mod Privates
pub mod Stacks
pub mod Runs
pub mod Shortcuts
pub mod Trips
pub mod Views
pub mod Example
pub mod Equal
pub mod Lying
pub mod Memories
pub mod Naming
pub mod Telling
pub mod Forms
pub mod Puts
pub mod Stores
pub mod Restarting
pub mod Joining
pub mod Past
mod Formulas
mod Drafted
pub mod Moves
pub mod Places
mod Stated
mod Alone
mod Goes
