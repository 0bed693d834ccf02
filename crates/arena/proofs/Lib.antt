pub mod Deciding
pub mod Places
pub mod Cells
pub mod Relink
pub mod Lengths
