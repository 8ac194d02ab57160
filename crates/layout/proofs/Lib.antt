pub mod Refused
pub mod Tests
