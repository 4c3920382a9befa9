pub mod Along
pub mod Scan
