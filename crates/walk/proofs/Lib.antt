pub mod Standing
pub mod Ahead
pub mod Noting
