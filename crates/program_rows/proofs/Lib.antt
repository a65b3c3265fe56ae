pub mod Storing
pub mod Forests
