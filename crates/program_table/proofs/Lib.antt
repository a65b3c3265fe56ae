pub mod Around
pub mod Ends
pub mod RowChecks
pub mod KindTests
pub mod TableChecks
