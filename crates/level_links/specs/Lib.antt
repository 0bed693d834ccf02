-- What insertion and removal ask of words, and the words once the links are done: for the crates above, not for a reader of the promises.
pub mod AtIndex
pub mod OneLevel
