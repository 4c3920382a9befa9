pub mod Levels
pub mod Pairs
pub mod Turned
pub mod Bounded
