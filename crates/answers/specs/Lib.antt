pub mod Told
pub mod Lists
pub mod Kept
