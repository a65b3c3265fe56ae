pub mod Deciding
pub mod Answering
pub mod Committing
