pub mod Storing
pub mod Room
pub mod Joining
