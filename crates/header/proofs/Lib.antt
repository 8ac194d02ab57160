pub mod Opening
pub mod Places
