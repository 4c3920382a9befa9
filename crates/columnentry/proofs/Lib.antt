pub mod Copying
pub mod Adding
pub mod Columns
