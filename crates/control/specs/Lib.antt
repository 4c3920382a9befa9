pub mod Answered
pub mod Lists
pub mod Bytes
