pub mod Places
pub mod Stopping
