pub mod Acting
pub mod Moving
pub mod Searching
pub mod Seeing
pub mod Shaping
pub mod Using
