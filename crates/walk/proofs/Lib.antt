pub mod Jumps
pub mod Searches
pub mod Counts
pub mod Walks
