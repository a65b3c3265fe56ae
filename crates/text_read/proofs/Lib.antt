pub mod Entries
pub mod First
pub mod Doing
pub mod Plain
pub mod Readers
pub mod Whole
