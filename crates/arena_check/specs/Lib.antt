-- What each part of the check asks of any words: for proofs/, not for a reader of the promises.
pub mod Headed
pub mod FreeChain
pub mod Whole
