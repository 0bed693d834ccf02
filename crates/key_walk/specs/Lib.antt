-- Where the walk by key stands and what it answers.
pub mod SearchAnswer
pub mod Midway
