pub mod SplitLinks
pub mod SplitColumns
