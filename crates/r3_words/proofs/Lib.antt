pub mod LimitLemmas
pub mod NumberLemmas
pub mod PlaceLemmas
