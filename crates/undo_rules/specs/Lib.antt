pub mod Books
pub mod Histories
pub mod Laws
pub mod Links
pub mod Refusals
pub mod Steps
