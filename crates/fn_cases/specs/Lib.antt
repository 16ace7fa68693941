pub mod Programs
pub mod Transacts
