pub mod Fulls
