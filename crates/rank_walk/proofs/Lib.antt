pub mod Seeking
pub mod Ranked
