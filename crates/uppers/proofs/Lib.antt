pub mod Verdicts
pub mod Judging
pub mod Level
pub mod Uppers
