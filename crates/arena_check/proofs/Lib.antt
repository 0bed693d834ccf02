-- The laws of the check, by theme.

-- the tests, one by one
pub mod HeadTests
pub mod FreeWalk
pub mod WholeTests
-- what they show, in the words of document 01's clauses
pub mod FreeClauses
pub mod SlotLists
pub mod Once
pub mod WholePasses
