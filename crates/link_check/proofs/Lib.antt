-- The laws of records and links, by theme.
pub mod Loops
pub mod InShape
pub mod OwnersFilled
pub mod PendingLinks
