pub mod Choices
pub mod Turns
