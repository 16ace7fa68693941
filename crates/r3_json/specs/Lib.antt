pub mod Faults
pub mod Values
pub mod Sizes
pub mod Lines
