pub mod TableLemmas
pub mod DerivationLemmas
mod SpelledLemmas
pub mod StepLemmas
pub mod ViableLemmas
pub mod ParseLemmas
pub mod MachineLemmas
pub mod TextLemmas
pub mod NameLemmas
pub mod SupplyLemmas
pub mod ReadableLemmas
