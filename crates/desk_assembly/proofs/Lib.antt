pub mod Assembles
pub mod Inputs
