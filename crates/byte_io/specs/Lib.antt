pub mod Buffered
pub mod Decimal
pub mod Device
pub mod Input
pub mod Lines
pub mod Numbers
pub mod Steps
