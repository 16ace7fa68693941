pub mod Log
pub mod Payloads
pub mod Fault
pub mod Gate
pub mod Unique
