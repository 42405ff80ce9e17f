pub mod Both
pub mod Combined
pub mod Kept
pub mod Shaped
pub mod Short
pub mod Unturned
