use Rattle.std.proofs.Common.{rules, ◌+◌, length, arith, length-append, ◌≡◌, Some, None, Option, ℕ, List, [], ◌∷◌, ◌++◌, sym, ap, ◌∙◌, string_bytes}
use Rattle.serde_json.specs.View.{members_view, view}
use Rattle.r3_value.specs.declared.value.Val.{Val}
use Rattle.r3_model.specs.Language.{Text}
use Rattle.r3_model.specs.Forms.{rows_from, row_from, and_row}
use Rattle.r3_lines.specs.Lines.{IsRow}
use Rattle.r3_lines.proofs.RowsRead.{behind, behind_none, behind_more, behind_all, all_more}
use Rattle.r3_lines.proofs.rows.rows_from.Goals as goal

pub loop-key-init : goal.loop-key-init
loop-key-init c =
    let whole = c.into_iter-key-iterator.ensures.into_iter_gives.0 in
    (rw (c.in_ok-rows.ensures.items, whole) (sym (behind_none _)), rw c.in_ok-rows.ensures.items tt, rw (c.in_ok-rows.ensures.items, whole) (omega arith))

pub returns-in-None-2-clause-read : goal.returns-in-None-2-clause-read
returns-in-None-2-clause-read c =
    let l = c.loop-key in
    let name : c.as_str.result.now ≡ string_bytes c.in-Some.key.now = c.as_str.ensures.value in
    let row = c.in_ok-row_from.ensures.read in
    let none : row_from (string_bytes c.in-Some.key.now) (view c.in-Some.value.now) ≡ None =
    sym (row ∙ ap (λ (s : List ℕ). row_from s (view c.in-Some.value.now)) name) ∙ c.in-None-2.is in
    sym (l.invariant.0 ∙ ap (λ es. behind l.rows.items (rows_from (members_view es))) c.in-Some.ensures.steps
    ∙ ap (λ (o : Option (Text × Val)). behind l.rows.items (and_row o (rows_from (members_view c.next.new.self)))) none)

pub loop-key-preserved : goal.loop-key-preserved
loop-key-preserved c =
    let l = c.loop-key in
    let name : c.as_str.result.now ≡ string_bytes c.in-Some.key.now = c.as_str.ensures.value in
    let row = c.in_ok-row_from.ensures.read in
    let some : row_from (string_bytes c.in-Some.key.now) (view c.in-Some.value.now) ≡ Some c.in-Some-2.row =
    sym (row ∙ ap (λ (s : List ℕ). row_from s (view c.in-Some.value.now)) name) ∙ c.in-Some-2.is in
    let pushed : c.push.new.self.items ≡ l.rows.items ++ c.in-Some-2.row ∷ [] = search rules in
    let all = l.invariant.0 ∙ ap (λ es. behind l.rows.items (rows_from (members_view es))) c.in-Some.ensures.steps
    ∙ ap (λ (o : Option (Text × Val)). behind l.rows.items (and_row o (rows_from (members_view c.next.new.self)))) some
    ∙ behind_more l.rows.items c.in-Some-2.row (rows_from (members_view c.next.new.self)) in
    let kept : IsRow c.in-Some-2.row = rw c.in-Some-2.is at c.in_ok-row_from.ensures.kept in
    let long : length c.push.new.self.items ≡ length l.rows.items + 1 = rw pushed (length-append l.rows.items (c.in-Some-2.row ∷ [])) in
    (rw pushed all, rw pushed (all_more IsRow l.rows.items c.in-Some-2.row l.invariant.1 kept), omega (arith, long, l.invariant.2, ap length c.in-Some.ensures.steps))

pub returns-clause-read : goal.returns-clause-read
returns-clause-read c =
    let l = c.loop-key in
    sym (l.invariant.0 ∙ ap (λ es. behind l.rows.items (rows_from (members_view es))) c.in-None.ensures.steps.0 ∙ behind_all l.rows.items)

pub returns-clause-kept : goal.returns-clause-kept
returns-clause-kept c = c.loop-key.invariant.1

pub returns-clause-same : goal.returns-clause-same
returns-clause-same c = omega (arith, c.loop-key.invariant.2, ap length c.in-None.ensures.steps.0)
