pub mod Counting
pub mod Making
