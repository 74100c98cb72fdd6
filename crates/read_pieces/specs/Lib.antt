pub mod Chain
pub mod Pieces
