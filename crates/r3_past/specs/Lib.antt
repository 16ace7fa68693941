pub mod Maps
pub mod Snapshot
