-- What the walk by key with precursors leaves.
pub mod Trails
