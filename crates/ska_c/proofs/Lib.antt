pub mod OneReturn
