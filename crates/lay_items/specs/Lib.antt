pub mod Begun
pub mod Graphs
pub mod Numbered
pub mod Runs
