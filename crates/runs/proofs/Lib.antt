pub mod Splice
pub mod Few
