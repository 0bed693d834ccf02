pub mod HeadMoves
pub mod JoinBefore
pub mod BeforeLinks
pub mod BeforeColumns
