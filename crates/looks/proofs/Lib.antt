pub mod Bound
pub mod Clashes
pub mod Between
pub mod Finds
