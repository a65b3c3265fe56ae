pub mod Decimal
pub mod Hexadecimal
pub mod Words
pub mod Writing
pub mod Pages
