pub mod Texts
pub mod Reads
