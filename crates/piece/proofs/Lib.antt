pub mod Currents
pub mod Pieces
