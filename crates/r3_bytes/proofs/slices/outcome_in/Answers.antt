use Rattle.std.proofs.Common.{◌≡◌, ◌∷◌, [], arith}
use Rattle.std.proofs.lemmas.List.{nil_from_length}
use Rattle.r3_bytes.proofs.Outcomes.{no_outcome, no_outcome-nil}
use Rattle.r3_bytes.proofs.slices.outcome_in.Goals as goal

pub returns-in-None : goal.returns-in-None
returns-in-None c =
    let nil : c.args.bytes.now ≡ [] = nil_from_length _ c.in-None.ensures.cases in
    rw nil no_outcome-nil

pub returns-in_default : goal.returns-in_default
returns-in_default c =
    let front : c.args.bytes.now ≡ c.in-Some.tag.now ∷ c.in-Some.rest.now = c.in-Some.ensures.cases.0 in
    rw front (no_outcome c.in-Some.tag.now c.in-Some.rest.now (omega arith))
