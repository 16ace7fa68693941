pub mod Flows
pub mod Starting
pub mod Invocations
pub mod Laws
pub mod Steps
