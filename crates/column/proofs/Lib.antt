pub mod Parts
pub mod Units
pub mod Columns
