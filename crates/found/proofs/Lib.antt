pub mod Here
pub mod Finding
