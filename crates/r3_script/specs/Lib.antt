pub mod Lines
pub mod Chunk
pub mod Piece
pub mod Script
