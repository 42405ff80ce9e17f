pub mod BegunLemmas
pub mod LineLemmas
pub mod WrittenLemmas
