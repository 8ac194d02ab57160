pub mod Table
pub mod Spreads
