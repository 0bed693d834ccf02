-- What the stores beside the links ask of words and leave: for the crates above, not for a reader of the promises.
pub mod Chain
