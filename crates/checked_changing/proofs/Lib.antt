mod InsertRows
mod RemoveByKey
