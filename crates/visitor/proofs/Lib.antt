-- where the walks end, as the visitors hold it; and that a visitor can be traversed again
pub mod Ends
pub mod Again
