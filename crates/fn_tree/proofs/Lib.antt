pub mod LiteralLemmas
