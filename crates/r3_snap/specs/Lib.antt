pub mod Conflicts
pub mod Pins
pub mod DerivedOrder
