pub mod Repeats
pub mod Children
pub mod Awaits
pub mod Statuses
