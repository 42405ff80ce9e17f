pub mod Answers
pub mod Marking
pub mod Works
