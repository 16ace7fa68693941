pub mod Asks
pub mod Drafts
