pub mod Bridges
pub mod Edges
mod RingStorage
pub mod Laws
pub mod Memory
pub mod Names
pub mod Padded
pub mod Parity
pub mod Points
pub mod Rects
pub mod RingEdges
pub mod Rings
pub mod Rising
pub mod Same
pub mod SameTurn
pub mod TurnMaps
pub mod Turns
