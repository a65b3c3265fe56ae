pub mod Arguments
pub mod Messages
pub mod Requests
