-- The laws of set-up, by theme.
pub mod NewModel
pub mod Writing
