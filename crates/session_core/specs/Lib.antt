pub mod Commits
pub mod Machine
pub mod Machines
