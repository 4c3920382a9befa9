pub mod Answers
pub mod Longer
