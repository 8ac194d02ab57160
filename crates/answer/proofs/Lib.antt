pub mod Said
pub mod Single
