pub mod Flat
pub mod Piece
