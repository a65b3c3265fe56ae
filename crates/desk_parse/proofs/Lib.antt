pub mod Leading
pub mod Digits
pub mod Counted
