pub mod ByteLaws
pub mod LineLaws
