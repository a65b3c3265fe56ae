pub mod Telling
pub mod TwoForms
pub mod Counting
pub mod Saying
pub mod Examples
