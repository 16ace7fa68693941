use Rattle.std.proofs.Common.{Bool, ◌∷◌, [], sym, subst, refl}
use Rattle.std.specs.Prelude.{IsTrue}
use Rattle.std.proofs.lemmas.Str.{is_utf8-from_IsUtf8}
use Rattle.r3_recover.proofs.FirstEntry.{first_entry, first-limits, first-payload, first-room}
use Rattle.r3_recover.proofs.Openings.{has-begun, one-within}
use Rattle.r3_recover.proofs.beginning.begin_exec.Goals as goal

pub returns-in-Ok-new-clause-does : goal.returns-in-Ok-new-clause-does
returns-in-Ok-new-clause-does g c = λ from t.
    let text = c.args.text.now in
    let limits = first-limits text (subst (λ (b : Bool). IsTrue b) (sym (is_utf8-from_IsUtf8 _ c.utf8.text)) refl) c.requires.short in
    has-begun g.D.Desk.size g.D.Desk.image g.D.Desk.may_leave g.D.Desk.moment g.D.Desk.reach g.D.Desk.said g.D.Desk.asked g.D.Desk.syncs
    from c.args.desk.now c.begin.new.desk c.args.store c.begin.new.store c.in-Ok-new.exec text t
    (first-room text (first-payload text c.enters_light.ensures.payload limits))
    c.in-Ok.ensures.begun c.in-Ok-new.ensures.store
    (c.in-Ok-new.ensures.stands (first_entry text ∷ []) c.in-Ok.ensures.begun.stands)
    c.begin.ensures.crash c.begin.ensures.reads c.begin.ensures.at_most c.begin.ensures.said c.begin.ensures.asked

pub returns-in-Ok-new-clause-few_syncs : goal.returns-in-Ok-new-clause-few_syncs
returns-in-Ok-new-clause-few_syncs g c = one-within (g.D.Desk.syncs c.args.desk.now) (g.D.Desk.syncs c.args.desk.now) (g.D.Desk.syncs c.begin.new.desk) refl c.begin.ensures.at_most

pub returns-in-Err-new-clause-few_syncs : goal.returns-in-Err-new-clause-few_syncs
returns-in-Err-new-clause-few_syncs g c = one-within (g.D.Desk.syncs c.args.desk.now) (g.D.Desk.syncs c.args.desk.now) (g.D.Desk.syncs c.begin.new.desk) refl c.begin.ensures.at_most

pub returns-in-Err-clause-few_syncs : goal.returns-in-Err-clause-few_syncs
returns-in-Err-clause-few_syncs g c = one-within (g.D.Desk.syncs c.args.desk.now) (g.D.Desk.syncs c.args.desk.now) (g.D.Desk.syncs c.begin.new.desk) refl c.begin.ensures.at_most
