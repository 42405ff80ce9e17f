pub mod Moving
pub mod Operated
pub mod RisingWrites
pub mod Searches
pub mod Shifting
