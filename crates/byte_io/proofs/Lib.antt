pub mod BufferedLemmas
pub mod DigitLemmas
pub mod LineLemmas
pub mod PairLemmas
pub mod Steps
