pub mod Edges
pub mod Spreads
