pub mod Histories
pub mod Logs
pub mod Rearranged
pub mod Undoing
