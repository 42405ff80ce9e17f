pub mod Directed
pub mod Laws
pub mod Net
pub mod Once
pub mod Oriented
pub mod Slants
pub mod Steps
pub mod Winding
