pub mod Characters
pub mod Tokens
pub mod Syntax
pub mod Trees
pub mod Texts
pub mod Lexer
pub mod Parser
pub mod Assembling
