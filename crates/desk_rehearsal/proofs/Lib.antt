pub mod Rooms
pub mod Estimates
pub mod Answered
pub mod Opens
pub mod Finishing
pub mod Log
