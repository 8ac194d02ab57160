pub mod Crossing
pub mod Laws
