pub mod Put
pub mod Columns
