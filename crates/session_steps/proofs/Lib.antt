pub mod DealtLemmas
pub mod TurnLemmas
