pub mod Lists
pub mod Stores
pub mod Loops
pub mod Facts
