pub mod Opened
pub mod Jobs
pub mod Laid
