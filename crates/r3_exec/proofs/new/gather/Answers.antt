use Rattle.std.proofs.Common.{refl, ◌∙◌, arith}
use Rattle.r3_exec.proofs.Gathering.{all_noted, next_row, none_noted, one_noted, with_first}
use Rattle.r3_exec.proofs.new.gather.Goals as goal

pub ids-init : goal.ids-init
ids-init c = (
  λ h stands. none_noted h c.args.ids.now _ _ c.rows_gather.ensures.listed stands.formed (c.requires.all h stands) c.requires.empty.0 c.requires.empty.1,
  refl,
)

pub note_first-requires : goal.note_first-requires
note_first-requires c =
    let x = c.requires.stands in
    let r = next_row x.0 c.id-item.result _ _ _ (with_first x.0 c.args.ids.now c.ids.id-index c.id-item.result _ _ c.ids-test.true c.id-item.is (c.ids.invariant.0 x.0 x.1)) in
    record { stands = (x.0, r.0, x.1, r.1) }

pub ids-preserved : goal.ids-preserved
ids-preserved c = (
  λ h stands. one_noted h c.id-item.result _ _ _ _ _ c.rows_gather.ensures.rise c.rows_gather.ensures.gather stands.formed
      (with_first h c.args.ids.now c.ids.id-index c.id-item.result _ _ c.ids-test.true c.id-item.is (c.ids.invariant.0 h stands))
      (λ row there. c.in_ok-note_first.ensures.noted h row stands there),
  c.note_first.ensures.declared ∙ c.ids.invariant.1,
)

pub returns-clause-gathered : goal.returns-clause-gathered
returns-clause-gathered c = λ h stands. all_noted h c.args.ids.now c.ids.id-index _ _ (omega (arith, c.ids-test.false)) (c.ids.invariant.0 h stands)
