pub mod AllLemmas
pub mod CallLemmas
pub mod CloseAnswers
pub mod GuardedLemmas
pub mod RefusedLemmas
pub mod RunLemmas
pub mod ScriptLemmas
