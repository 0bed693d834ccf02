-- The laws of the figures: the two ends, from the parts to the promise, one answer.
pub mod Ends
pub mod Promised
pub mod Unique
