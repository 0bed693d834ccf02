-- What the walk along a list asks of any words: for proofs/, not for a reader of the promises.
pub mod Walked
