pub mod Starting
pub mod Sized
