pub mod Points
pub mod Lines
pub mod Decided
pub mod Ends
pub mod Turning
pub mod First
pub mod Rows
