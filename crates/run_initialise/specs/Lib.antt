pub mod Initialising
