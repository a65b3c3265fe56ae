pub mod Arrays
pub mod Operation
pub mod Clamping
