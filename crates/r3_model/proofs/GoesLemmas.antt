-- Runs of the machine, one after the other.
use Rattle.std.proofs.Common.{List, [], ◌∷◌, ◌++◌, sym, subst, ap, ◌∙◌}
use Rattle.std.proofs.lemmas.List.{append_assoc}
use Rattle.r3_model.specs.Language.{Language}
use Rattle.r3_model.specs.Event.{Event, Reply, Call}
use Rattle.r3_model.specs.Machine.{State}
use Rattle.r3_model.specs.Goes.{Goes}

pub goes-append : (P : Language) (old mid new : State) (evs more : List Event) (rs rs' : List Reply) (ks ks' : List Call)
    → Goes P old evs rs ks mid → Goes P mid more rs' ks' new → Goes P old (evs ++ more) (rs ++ rs') (ks ++ ks') new
goes-append P old mid new [] more [] rs' ks ks' first second =
    let At : State → Type 0 = λ st. Goes P st more rs' (ks ++ ks') new in
    let Of : List Call → Type 0 = λ k. Goes P mid more rs' (k ++ ks') new in
    subst At first.0 (subst Of (sym first.1) second)
goes-append P old mid new [] more (r ∷ rs) rs' ks ks' first second = absurd first
goes-append P old mid new (ev ∷ evs) more [] rs' ks ks' first second = absurd first
goes-append P old mid new (ev ∷ evs) more (r ∷ rs) rs' ks ks' first second = (
  first.0,
  first.1,
  first.2 ++ ks',
  first.3,
  (ap (λ (k : List Call). k ++ ks') first.4 ∙ append_assoc first.1 first.2 ks'),
  goes-append P first.0 mid new evs more rs rs' first.2 ks' first.5 second,
)
