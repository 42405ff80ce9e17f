pub mod Ends
pub mod Flat
pub mod Flattening
pub mod Laws
pub mod Lending
pub mod Lists
pub mod Order
pub mod Walked
