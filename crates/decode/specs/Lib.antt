pub mod Decodes
pub mod Takes
