pub mod Clips
pub mod Columns
pub mod Runs
pub mod Slabs
