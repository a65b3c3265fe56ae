pub mod Stations
pub mod Moments
