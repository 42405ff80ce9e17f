pub mod Combining
pub mod Faults
