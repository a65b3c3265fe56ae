pub mod Writes
pub mod Decompiling
