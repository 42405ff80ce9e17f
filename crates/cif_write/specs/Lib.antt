pub mod Boxes
pub mod Idle
pub mod Lines
pub mod Text
pub mod Unused
pub mod Ways
pub mod Wrap
