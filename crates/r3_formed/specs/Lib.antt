pub mod Past
pub mod PastLaws
pub mod Answers
pub mod Rules
pub mod Adding
pub mod LookLaws
pub mod Load
