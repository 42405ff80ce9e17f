pub mod Bottoms
pub mod Forest
pub mod Incidence
pub mod Joining
pub mod Paths
