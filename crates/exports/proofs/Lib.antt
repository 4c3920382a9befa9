pub mod Decoding
pub mod Reading
