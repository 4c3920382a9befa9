pub mod AllowedTurns
pub mod InOrder
