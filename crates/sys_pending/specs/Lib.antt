pub mod Running
pub mod Index
pub mod Moves
