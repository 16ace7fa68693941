pub mod Ends
pub mod Kept
pub mod Drained
pub mod Rounds
pub mod Opened
pub mod Recovering
