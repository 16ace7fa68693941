pub mod Unique
pub mod Found
pub mod Written
pub mod Outcomes
pub mod Places
