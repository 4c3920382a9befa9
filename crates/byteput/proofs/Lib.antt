pub mod Caps
pub mod Parts
pub mod Strips
pub mod Halves
pub mod Calls
