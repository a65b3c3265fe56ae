pub mod Digits
pub mod Texts
pub mod Pairs
pub mod Labels
pub mod Pages
