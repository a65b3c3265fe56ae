pub mod Asked
pub mod Said
