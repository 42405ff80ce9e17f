pub mod Coded
pub mod OneOrMany
pub mod Homes
pub mod Kept
pub mod Marks
pub mod Met
pub mod WritesOf
