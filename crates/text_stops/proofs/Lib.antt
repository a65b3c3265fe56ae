pub mod Places
pub mod Locality
pub mod Stopping
pub mod Stops
pub mod Examples
