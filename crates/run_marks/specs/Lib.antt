pub mod Lowest
pub mod Settling
