pub mod Copied
pub mod Going
