use Rattle.std.proofs.Common.{◌≤◌, List, length, sym, ap, ◌∙◌, subst}
use Rattle.std.specs.Option.{option_copied}
use Rattle.r3_entry.specs.declared.entry.Entry.{Entry}
use Rattle.r3_model.specs.Functions.{language_of}
use Rattle.r3_plain.specs.Kept.{Stands}
use Rattle.r3_plain.specs.Words.{state_of}
use Rattle.r3_plain.proofs.Turns.{of_row}
use Rattle.r3_plain.proofs.turn.turn_of.Goals as goal

pub counted-requires-clause-within : goal.counted-requires-clause-within
counted-requires-clause-within c = λ n is.
    let st = state_of c.args.state.now in
    let s : Stands c.of-past.result st.history = subst (λ (h : List Entry). Stands c.of-past.result h) c.as_slice.ensures.value c.of-past.ensures in
    subst (λ (h : List Entry). n ≤ length h) (sym s.same) (c.requires.snapshots.each c.in_ok-id-in-Some.id n (sym c.snapshot_of-snap.ensures ∙ is)).past

pub returns-in_ok-turned-in-Some : goal.returns-in_ok-turned-in-Some
returns-in_ok-turned-in-Some c =
    let st = state_of c.args.state.now in
    let s : Stands c.of-past.result st.history = subst (λ (h : List Entry). Stands c.of-past.result h) c.as_slice.ensures.value c.of-past.ensures in
    of_row (language_of c.args.program.now) st c.args.id.now c.in_ok-id-in-Some.id c.in-Some.row.now c.snapshot_of-snap.result c.args.answer.now c.in_ok-turned-in-Some.turned
    (sym (c.in_ok-flow_row.ensures.row st.history s) ∙ ap (λ o. option_copied o) c.in-Some.is) c.in_ok-id-in-Some.ensures c.snapshot_of-snap.ensures
    (c.in_ok-turned-in-Some.ensures st.history s)
