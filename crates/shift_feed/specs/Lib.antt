pub mod Shifts
pub mod Feeds
