pub mod Found
pub mod Turns
pub mod Kept
pub mod Size
