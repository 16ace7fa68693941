pub mod ChoiceLemmas
pub mod NumberLemmas
