pub mod History
pub mod Bytes
pub mod Formed
pub mod Image
pub mod Parse
pub mod Parts
pub mod Limits
