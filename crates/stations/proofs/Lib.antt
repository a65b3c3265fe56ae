pub mod ByTree
pub mod Stations
pub mod Any
pub mod Doubtful
pub mod Silent
pub mod Deciding
