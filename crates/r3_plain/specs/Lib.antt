pub mod Words
pub mod Flows
pub mod Kept
pub mod Comes
pub mod Done
