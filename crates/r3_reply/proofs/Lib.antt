mod NoFloat
pub mod Told
