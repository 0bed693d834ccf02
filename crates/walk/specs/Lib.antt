-- Where a walk stands: for the crates above, not for a reader of the promises.
pub mod Standing
