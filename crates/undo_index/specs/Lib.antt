pub mod First
pub mod PlaceSet
pub mod Listed
pub mod Parts
pub mod Under
