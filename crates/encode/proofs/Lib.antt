pub mod Columns
pub mod Strips
