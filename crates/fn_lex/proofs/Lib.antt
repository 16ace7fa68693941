pub mod LexemeLemmas
pub mod TextLemmas
pub mod NumberLemmas
pub mod FrontLemmas
pub mod LexLemmas
pub mod LawLemmas
