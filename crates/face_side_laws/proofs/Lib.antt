pub mod Arms
pub mod Borders
pub mod EvenEnds
pub mod Level
pub mod Rows
pub mod Sides
pub mod Slide
