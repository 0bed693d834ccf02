-- What the walk by rank answers.
pub mod Ranks
