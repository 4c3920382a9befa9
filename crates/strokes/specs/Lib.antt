pub mod Stroke
pub mod Retrace
