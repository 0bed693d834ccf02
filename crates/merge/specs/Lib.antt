-- What append's last case leaves: for the crates above, not for a reader of the promises.
pub mod Merged
