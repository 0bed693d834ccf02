pub mod RemoveAfter
