pub mod Books
pub mod Calls
pub mod Changes
pub mod Coded
pub mod Indexed
pub mod Marks
pub mod Places
pub mod Replays
