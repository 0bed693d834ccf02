pub mod Bare
pub mod NewRecords
