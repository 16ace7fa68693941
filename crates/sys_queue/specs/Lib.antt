pub mod Lines
pub mod Rows
pub mod Index
pub mod Moves
pub mod Told
pub mod Found
pub mod Kept
