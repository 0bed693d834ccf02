pub mod Forms
pub mod Holds
pub mod Once
pub mod Places
