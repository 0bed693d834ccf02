-- What one turn of levelling asks of words and leaves: for this crate itself, not for a reader of the promises.
pub mod NodeByNode
