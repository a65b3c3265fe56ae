pub mod Answering
pub mod Lengths
pub mod Examples
