-- The definitions of document 01, in its order. A reader has to believe these files, but for Closed, and no others of this crate.
pub mod Nodes
pub mod Links
pub mod Walks
pub mod Closed
pub mod Lists
pub mod Arena
pub mod Cells
pub mod Passes
pub mod StoredWalks
pub mod Calls
pub mod Refusals
pub mod Claims
pub mod Stays
pub mod Slices
pub mod Gaps
pub mod Bench
pub mod Order
