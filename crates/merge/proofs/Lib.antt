pub mod Ends
pub mod Holding
pub mod Merging
