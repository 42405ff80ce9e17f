pub mod Places
pub mod Shared
pub mod Tops
pub mod Written
