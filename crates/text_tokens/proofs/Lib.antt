pub mod Ends
pub mod Decimals
pub mod Classes
pub mod Marks
