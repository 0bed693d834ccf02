pub mod Figured
