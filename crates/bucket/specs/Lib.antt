pub mod Views
pub mod Raise
