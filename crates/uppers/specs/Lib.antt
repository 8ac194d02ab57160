pub mod Judge
pub mod Uppers
