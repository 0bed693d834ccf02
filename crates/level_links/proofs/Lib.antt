pub mod LinkChanges
pub mod InsertLinks
pub mod RemoveLinks
pub mod AfterLinks
