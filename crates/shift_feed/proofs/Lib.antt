pub mod Capping
pub mod Taking
pub mod Feeding
pub mod Unique
