pub mod Ahead
pub mod Growing
pub mod Raising
pub mod Redone
pub mod Coming
pub mod Climbing
pub mod Bytes
