-- The theorems about the definitions of document 01, by theme.

-- cases
pub mod Tests
-- the walks: closed forms, and what document 01 claims of them
pub mod Steps
pub mod Walk
pub mod Precursor
pub mod Searching
pub mod ByKey
pub mod ByRank
-- the tally's limits
pub mod Gap
pub mod Levels
pub mod Limits
-- lists and models that operations make
pub mod Ordering
pub mod Keeps
pub mod Allowed
pub mod EveryCall
pub mod Keys
pub mod KeysAfter
pub mod Leaves
pub mod Stay
pub mod Remain
pub mod Composing
-- words and models
pub mod Records
pub mod Builds
pub mod Models
pub mod Counting
pub mod Apart
pub mod Frame
pub mod Columns
pub mod Chained
pub mod Clauses
pub mod StoredWalks
-- which records an operation changes
pub mod Links
pub mod Owners
pub mod Hang
pub mod Splitting
pub mod Inserting
-- promises
pub mod Refusals
pub mod CallAnswers
pub mod Unique
pub mod Slices
pub mod Bounded
pub mod BenchReadings
pub mod Order
