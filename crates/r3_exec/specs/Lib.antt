pub mod Ends
pub mod Runs
pub mod Discards
pub mod Does
pub mod Fit
pub mod Placed
pub mod Entered
pub mod Turning
