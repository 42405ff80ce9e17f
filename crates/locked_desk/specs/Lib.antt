pub mod Closing
pub mod Desks
pub mod Jobs
pub mod Runs
pub mod Scripts
pub mod Stored
pub mod Ways
