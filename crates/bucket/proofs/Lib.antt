pub mod Views
pub mod BucketWords
pub mod Stored
pub mod Stepping
