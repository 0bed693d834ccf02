pub mod Drawing
pub mod Holding
