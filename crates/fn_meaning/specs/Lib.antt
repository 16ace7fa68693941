pub mod Nodes
pub mod Budget
pub mod ValueLimits
