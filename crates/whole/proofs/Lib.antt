pub mod Bitmap
pub mod Holding
pub mod Tallying
pub mod Zeros
pub mod Checking
