pub mod Writing
pub mod InHand
