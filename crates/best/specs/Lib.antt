pub mod Choice
pub mod Of
