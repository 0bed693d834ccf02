-- What truncation's workers leave on the way: for this crate, not for a reader of the promises.
pub mod Truncation
