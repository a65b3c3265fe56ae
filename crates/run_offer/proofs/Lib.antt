pub mod Checking
pub mod Offering
