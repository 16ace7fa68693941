pub mod Answered
pub mod Done
pub mod Begun
