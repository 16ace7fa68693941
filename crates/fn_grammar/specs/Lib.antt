pub mod Letters
pub mod Grammar
pub mod Trees
pub mod Derivation
pub mod Place
pub mod Steps
pub mod Written
