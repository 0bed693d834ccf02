-- What is asked of the records and links of any words: for proofs/, not for a reader of the promises.
pub mod EachFrom
pub mod Shape
pub mod LevelLinks
