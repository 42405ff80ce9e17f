pub mod Crossings
pub mod Meeting
pub mod PixelLaws
pub mod RoundLaws
pub mod Rounding
pub mod Sorting
