pub mod Lexing
pub mod Spelling
pub mod Sound
pub mod Parsing
pub mod Complete
pub mod Exact
pub mod Accepted
pub mod Examples
