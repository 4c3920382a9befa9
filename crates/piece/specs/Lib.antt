pub mod Boards
pub mod Pieces
