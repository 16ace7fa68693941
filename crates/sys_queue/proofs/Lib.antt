pub mod Changed
pub mod Follows
pub mod Made
pub mod Told
pub mod BoardLemmas
