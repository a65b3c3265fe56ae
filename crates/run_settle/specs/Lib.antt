pub mod Deciding
pub mod Answering
