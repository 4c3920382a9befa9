pub mod Empty
pub mod Steps
