pub mod Levels
pub mod Grow
