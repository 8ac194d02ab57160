pub mod Places
pub mod Gains
pub mod Marks
pub mod Soundness
pub mod Walk
pub mod Zeros
