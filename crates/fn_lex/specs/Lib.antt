pub mod Bytes
pub mod Words
pub mod Lexemes
pub mod Lexed
pub mod Pieces
