pub mod Coordinates
pub mod Written
pub mod Only
pub mod Shapes
pub mod Writes
pub mod Granted
