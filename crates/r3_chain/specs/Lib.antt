pub mod Versions
pub mod Links
pub mod Heads
pub mod Sound
pub mod Cuts
pub mod Long
pub mod VersionLaws
