pub mod Program
pub mod Examples
pub mod Failures
