-- What the freeing of a record asks of words and leaves: for the crates above, not for a reader of the promises.
pub mod NodeRecord
