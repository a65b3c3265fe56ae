pub mod Merging
pub mod Searching
