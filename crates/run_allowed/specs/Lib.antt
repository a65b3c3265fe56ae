pub mod Places
pub mod Inner
pub mod Running
