pub mod Scans
pub mod Counting
pub mod Refusals
