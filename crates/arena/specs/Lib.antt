-- What the core functions ask of words and leave: for the crates above, not for a reader of the promises.
pub mod RecordIn
pub mod Linked
pub mod Between
pub mod Owners
pub mod Decides
pub mod ListedOnce
pub mod Held
