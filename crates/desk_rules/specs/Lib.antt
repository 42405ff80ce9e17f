pub mod Close
pub mod Guards
pub mod Laws
pub mod Legal
pub mod Refusals
pub mod Same
pub mod Seats
