pub mod Pairing
pub mod Adding
