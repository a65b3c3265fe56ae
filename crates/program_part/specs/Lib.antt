pub mod Readable
pub mod Children
