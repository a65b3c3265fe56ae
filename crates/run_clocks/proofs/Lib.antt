pub mod Starting
pub mod Pass
