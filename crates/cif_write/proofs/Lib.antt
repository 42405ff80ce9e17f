pub mod BegunLemmas
pub mod BoxLemmas
pub mod IdleLemmas
pub mod LineLemmas
pub mod UnusedLemmas
pub mod WayLemmas
pub mod WrapLemmas
