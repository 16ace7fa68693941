pub mod Taken
pub mod Rising
