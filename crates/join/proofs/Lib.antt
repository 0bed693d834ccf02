pub mod JoinLinks
pub mod JoinColumns
