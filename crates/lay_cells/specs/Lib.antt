pub mod Graph
pub mod Marks
pub mod Places
pub mod SameCell
pub mod Symbols
pub mod Tallies
pub mod WalkLists
pub mod Walks
