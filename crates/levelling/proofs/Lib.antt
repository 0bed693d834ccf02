pub mod Heights
pub mod Filling
pub mod ListReplaced
pub mod OneNode
pub mod EveryNode
