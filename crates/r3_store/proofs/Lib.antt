pub mod Images
pub mod OpenLaws
pub mod Found
pub mod Conflicts
pub mod Publishes
pub mod Follows
pub mod Carried
