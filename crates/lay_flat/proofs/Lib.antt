pub mod Answered
pub mod Below
pub mod LayoutWalks
pub mod LendingLemmas
pub mod OrderLemmas
pub mod Tested
