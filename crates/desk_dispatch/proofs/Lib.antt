pub mod Counted
pub mod Rooms
pub mod Calls
pub mod Said
