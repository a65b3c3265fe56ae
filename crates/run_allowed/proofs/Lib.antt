pub mod Places
pub mod Children
pub mod Markings
pub mod Running
