-- What a contract sees of a snapshot: what is read, and as of which index.
use Rattle.std.specs.Prelude.{ℕ, refl}
use Rattle.std.specs.Coded.{Coded, code_by, coded×, coded_ℕ}

pub record Snapshot (S : Type 0) : Type 0 where
  pub past : S
  pub index : ℕ

-- it is stored as the pair of its fields
abbrev pub snapshot_code : {S : Type 0} → Coded S → Coded (Snapshot S)
snapshot_code {S} code =
    code_by (S × ℕ) (coded× code coded_ℕ) (λ s. (s.past, s.index)) (λ p. record { past = p.0; index = p.1 }) (λ _. refl)
