pub mod GivenLemmas
pub mod OutputLemmas
pub mod ReadingLemmas
