pub mod Ends
pub mod Numbers
pub mod Lists
pub mod Bytes
