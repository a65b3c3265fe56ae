pub mod Marks
pub mod TimeBytes
pub mod Judging
