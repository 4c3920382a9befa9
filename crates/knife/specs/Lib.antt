pub mod Knife
pub mod Safe
pub mod Retraced
