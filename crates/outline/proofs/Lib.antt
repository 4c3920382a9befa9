pub mod Limit
pub mod Vertices
pub mod Extents
