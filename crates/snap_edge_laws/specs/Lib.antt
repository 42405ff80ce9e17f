pub mod Areas
pub mod Chains
pub mod Edges
pub mod Meeting
pub mod Pieces
pub mod Rounding
pub mod Undirected
