pub mod OrderLemmas
pub mod PlaceLemmas
pub mod JournalLemmas
pub mod MergeLemmas
pub mod PairLemmas
pub mod CountLemmas
