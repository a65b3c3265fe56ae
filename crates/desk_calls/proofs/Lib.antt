pub mod Calling
pub mod Shifts
pub mod Room
pub mod Examples
pub mod Times
