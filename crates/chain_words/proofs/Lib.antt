pub mod ChainReads
pub mod ChainDone
