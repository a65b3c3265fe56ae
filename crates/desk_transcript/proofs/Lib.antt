pub mod Marked
pub mod Summing
pub mod Lengths
pub mod Examples
