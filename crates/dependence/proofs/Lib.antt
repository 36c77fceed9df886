pub mod Agreed
pub mod Alike
pub mod Distances
pub mod Divides
pub mod Divisors
pub mod Fitted
pub mod Greatest
pub mod Meeting
pub mod PlanArms
pub mod Promise
pub mod Reformed
pub mod Runs
pub mod Strides
mod Table
