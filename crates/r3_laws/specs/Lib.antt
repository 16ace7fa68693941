pub mod OfEvents
pub mod OfStates
pub mod OfHistories
pub mod OfPrograms
pub mod OfQueues
pub mod OfPending
