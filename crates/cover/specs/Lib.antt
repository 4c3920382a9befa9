pub mod Turn
pub mod Written
