pub mod Lined
pub mod Listed
pub mod Inputs
pub mod Examples
