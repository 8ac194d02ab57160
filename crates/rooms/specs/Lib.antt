pub mod Growth
pub mod Rooms
