pub mod Places
pub mod Uncalled
