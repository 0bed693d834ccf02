pub mod Parsing
pub mod Begun
