pub mod Held
pub mod Served
pub mod Scripted
pub mod Failed
