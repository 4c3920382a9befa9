pub mod Building
pub mod Whole
