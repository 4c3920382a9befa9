pub mod Ranks
pub mod Between
pub mod Numbered
pub mod Bound
pub mod Most
pub mod Work
