pub mod Forms
pub mod Places
pub mod Words
