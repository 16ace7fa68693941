-- A call that reads neither a function file nor the script.
use Rattle.std.proofs.Common.{◌≡◌, ℕ, sym, ◌∙◌, arith}
use Rattle.r3_top.specs.Statuses.{status_of}
use Rattle.r3_top.specs.Refusals.{ReadsNone}
use Rattle.r3_top.specs.declared.halt.Halt.{Halt}
use Rattle.r3_top.specs.declared.halt.Halt.TheVariants as halts
use Rattle.r3_top.proofs.Causing.{Answers, own}

none-status : (halt : Halt) → ReadsNone halt → (status_of halt ≡ 6 → ⊥) × (status_of halt ≡ 10 → ⊥)
none-status halts.Usage r = absurd r
none-status halts.Memory r = (λ is. omega (arith, is), λ is. omega (arith, is))
none-status halts.Disk r = (λ is. omega (arith, is), λ is. omega (arith, is))
none-status halts.Say r = (λ is. omega (arith, is), λ is. omega (arith, is))
none-status halts.Files r = absurd r
none-status halts.Script r = absurd r
none-status (halts.Functions f) r = (λ is. omega (arith, is), λ is. omega (arith, is))
none-status (halts.Store e) r = (λ is. omega (arith, is), λ is. omega (arith, is))
none-status halts.Program r = (λ is. omega (arith, is), λ is. omega (arith, is))
none-status halts.LongFile r = absurd r
none-status halts.LongScript r = absurd r

pub not-input : (answer : ℕ) (halt : Halt) → Answers answer halt → ReadsNone halt → answer ≡ 6 → ⊥
not-input answer halt is r six = (none-status halt r).0 (sym (own answer halt is (λ t. omega (arith, six, t)) (λ f. omega (arith, six, f))) ∙ six)

pub not-long : (answer : ℕ) (halt : Halt) → Answers answer halt → ReadsNone halt → answer ≡ 10 → ⊥
not-long answer halt is r ten = (none-status halt r).1 (sym (own answer halt is (λ t. omega (arith, ten, t)) (λ f. omega (arith, ten, f))) ∙ ten)
