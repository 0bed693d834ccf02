-- What a split asks of words: for the crates above, not for a reader of the promises.
pub mod Splits
