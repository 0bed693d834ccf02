-- What a join before leaves, and what it stores on the way: for the crates above, not for a reader of the promises.
pub mod Preceded
