pub mod Rehearsal
pub mod Opening
pub mod Log
