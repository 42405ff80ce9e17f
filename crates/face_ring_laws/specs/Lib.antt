pub mod Heads
pub mod Linked
pub mod Linking
pub mod Parts
