pub mod Cutting
pub mod Pushing
pub mod Going
