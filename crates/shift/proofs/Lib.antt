pub mod AllLines
pub mod Answering
pub mod Reporting
pub mod Unique
pub mod Reports
