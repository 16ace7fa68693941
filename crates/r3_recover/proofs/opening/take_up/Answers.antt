use Rattle.std.proofs.Common.{◌≡◌, ◌≢◌, ℕ, List, [], ◌∷◌, true, inl, length, refl, sym, ap, ◌∙◌, subst, arith}
use Rattle.r3_entry.specs.declared.entry.Entry.{Entry}
use Rattle.r3_entry.specs.Image.{IsHistoryOf}
use Rattle.r3_desk.specs.Moments.{LeavesImage}
use Rattle.r3_exec.proofs.Syncs.{no_more}
use Rattle.r3_recover.specs.Recovering.{IsTaken}
use Rattle.r3_recover.proofs.opening.take_up.Goals as goal

none-of : (h : List Entry) → 0 ≡ length h → h ≡ []
none-of [] is = refl
none-of (e ∷ es) is = absurd (omega (arith, is))

some-of : (h : List Entry) (n : ℕ) → n ≡ length h → (n ≡ 0 → ⊥) → h ≢ []
some-of h n is not none = not (is ∙ ap (λ (es : List Entry). length es) none)

pub returns-then-len-eq0-clause-does : goal.returns-then-len-eq0-clause-does
returns-then-len-eq0-clause-does g c = λ from h t.
    let none = none-of h (sym c.if-len-eq0.true ∙ c.len.ensures h t.opens.holds.stands) in
    c.begin_exec.ensures.does from (subst (IsTaken g.D.Desk.size g.D.Desk.image g.D.Desk.may_leave g.D.Desk.moment g.D.Desk.reach g.D.Desk.said g.D.Desk.asked g.D.Desk.syncs from c.args.desk.now c.args.store) none t)

pub returns-then-len-eq0-clause-crash : goal.returns-then-len-eq0-clause-crash
returns-then-len-eq0-clause-crash g c = λ from h t.
    let none = none-of h (sym c.if-len-eq0.true ∙ c.len.ensures h t.opens.holds.stands) in
    let taken = subst (IsTaken g.D.Desk.size g.D.Desk.image g.D.Desk.may_leave g.D.Desk.moment g.D.Desk.reach g.D.Desk.said g.D.Desk.asked g.D.Desk.syncs from c.args.desk.now c.args.store) none t in
    subst (λ (es : List Entry). LeavesImage g.D.Desk.moment g.D.Desk.reach g.D.Desk.may_leave g.D.Desk.said g.D.Desk.asked from c.begin_exec.new.desk (IsHistoryOf es)) (sym none) (c.begin_exec.ensures.crash from taken)

pub returns-then-len-eq0-clause-reads : goal.returns-then-len-eq0-clause-reads
returns-then-len-eq0-clause-reads g c = λ from h t i told.
    let none = none-of h (sym c.if-len-eq0.true ∙ c.len.ensures h t.opens.holds.stands) in
    subst (λ (es : List Entry). IsHistoryOf es i) (sym none) (c.begin_exec.ensures.reads i told)

pub returns-then-len-eq0-clause-other : goal.returns-then-len-eq0-clause-other
returns-then-len-eq0-clause-other g c = λ h stands not.
    absurd (not (inl (none-of h (sym c.if-len-eq0.true ∙ c.len.ensures h stands))))

pub returns-clause-does : goal.returns-clause-does
returns-clause-does g c = λ from h t.
    let stands = t.opens.holds.stands in
    let some = some-of h c.len.result (c.len.ensures h stands) c.if-len-eq0.false in
    c.recover_exec.ensures.does from h c.args.text.now t some ((c.has_program.ensures h stands some).0 c.if-not-has_program.false)

pub returns-clause-crash : goal.returns-clause-crash
returns-clause-crash g c = λ from h t.
    c.recover_exec.ensures.crash from h t (some-of h c.len.result (c.len.ensures h t.opens.holds.stands) c.if-len-eq0.false)

pub returns-clause-reads : goal.returns-clause-reads
returns-clause-reads g c = λ from h t.
    c.recover_exec.ensures.reads from h t (some-of h c.len.result (c.len.ensures h t.opens.holds.stands) c.if-len-eq0.false)

pub returns-then-not-has_program-clause-few_syncs : goal.returns-then-not-has_program-clause-few_syncs
returns-then-not-has_program-clause-few_syncs g c = no_more (g.D.Desk.syncs c.args.desk.now) (g.D.Desk.syncs c.args.desk.now) refl 1

pub returns-clause-few_syncs : goal.returns-clause-few_syncs
returns-clause-few_syncs g c = no_more (g.D.Desk.syncs c.args.desk.now) (g.D.Desk.syncs c.recover_exec.new.desk) c.recover_exec.ensures.syncs 1
