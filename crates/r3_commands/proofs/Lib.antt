pub mod Names
pub mod Fits
pub mod Carried
