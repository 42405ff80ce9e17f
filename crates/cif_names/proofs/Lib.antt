pub mod KeptCommands
pub mod KeptLines
pub mod LabelUnits
pub mod PieceLemmas
pub mod ReaderPlaces
pub mod SameText
pub mod TitleLemmas
