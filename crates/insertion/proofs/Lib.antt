pub mod InsertBefore
pub mod KeyPlace
