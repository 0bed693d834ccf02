-- The laws of a list's walk: step by step, what it shows, and that in the words of document 01's clauses.
pub mod WalkSteps
pub mod Formed
pub mod ListFacts
