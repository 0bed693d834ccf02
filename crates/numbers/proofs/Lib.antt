pub mod OneAnswer
pub mod AsTold
