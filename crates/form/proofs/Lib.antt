pub mod Meaning
pub mod Joined
pub mod Seen
pub mod Totals
