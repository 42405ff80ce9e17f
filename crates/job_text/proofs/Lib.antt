pub mod JobLemmas
pub mod TextLemmas
pub mod WordLemmas
