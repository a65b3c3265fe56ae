pub mod Standing
pub mod Input
