pub mod Laws
pub mod Owed
pub mod Refusing
pub mod Staying
