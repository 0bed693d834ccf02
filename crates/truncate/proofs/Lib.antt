pub mod Shortened
pub mod UntilFreed
pub mod Ending
pub mod Freeing
