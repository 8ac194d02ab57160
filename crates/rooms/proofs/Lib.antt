pub mod Encoded
pub mod Rooms
pub mod Raises
