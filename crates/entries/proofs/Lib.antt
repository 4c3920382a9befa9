pub mod Entries
pub mod Sorting
