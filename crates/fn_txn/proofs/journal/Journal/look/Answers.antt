use Rattle.std.proofs.Common.{◌≡◌, ◌∙◌, ◌++◌, ◌∷◌, [], Bool, true, false, sym, map, Some, None, rules, arith}
use Rattle.fn_tree.specs.Looks.{contains_look}
use Rattle.fn_txn.specs.RowKeys.{write_of}
use Rattle.fn_txn.specs.Journals.{looked}
use Rattle.fn_txn.proofs.PlaceLemmas.{found_is, kept_more, looked_again, looked_more, looked_too_many}
use Rattle.fn_txn.proofs.journal.Journal.look.Goals as goal

pub returns-then-contains : goal.returns-then-contains
returns-then-contains c =
    let looks = c.self.inside.looks.items in
    let writes = map write_of c.self.inside.writes.entries in
    let old : contains_look looks c.args.look ≡ true =
    c.self.invariant.indexed c.args.look ∙ sym (found_is _ c.place_order.ensures c.args.look c.in_ok-at.at c.in_ok-at.ensures c.self.inside.places.keys) ∙ sym c.contains.ensures ∙ c.if-contains.true in
    let e : looked c.args.look (record { looks = looks; writes = writes }) ≡ Some (record { looks = looks; writes = writes }) = looked_again c.args.look looks writes old in
    let v = c.self.view_is in
    first_of (search rules, grind arith)

pub invariant_of-self-in-Some : goal.invariant_of-self-in-Some
invariant_of-self-in-Some c =
    kept_more _ c.place_order.ensures c.self.inside.looks.items c.push_reserved.new.self.items c.self.inside.items c.in-Some.items c.self.inside.places.keys c.insert.new.self.keys c.self.inside.writes.entries c.args.look c.in_ok-at.at c.in_ok-at.ensures c.self.invariant
    (sym c.total.ensures ∙ c.in-Some.is)
    (c.push_reserved.ensures.items ∙ (λ i. c.in_ok-reserve-in-Some.ensures.items i ++ c.args.look ∷ []))
    c.in_ok-insert-in-Some.ensures.updates.0

pub returns-in-None : goal.returns-in-None
returns-in-None c =
    let looks = c.self.inside.looks.items in
    let writes = map write_of c.self.inside.writes.entries in
    let new : contains_look looks c.args.look ≡ false =
    c.self.invariant.indexed c.args.look ∙ sym (found_is _ c.place_order.ensures c.args.look c.in_ok-at.at c.in_ok-at.ensures c.self.inside.places.keys) ∙ sym c.contains.ensures ∙ c.if-contains.false in
    let e : looked c.args.look (record { looks = looks; writes = writes }) ≡ None = looked_too_many c.args.look looks writes c.self.inside.items new c.self.invariant.counted (sym c.total.ensures ∙ c.in-None.is) in
    let v = c.self.view_is in
    first_of (search rules, grind arith)

pub returns-in_ok-insert-in-Some : goal.returns-in_ok-insert-in-Some
returns-in_ok-insert-in-Some c =
    let looks = c.self.inside.looks.items in
    let writes = map write_of c.self.inside.writes.entries in
    let new : contains_look looks c.args.look ≡ false =
    c.self.invariant.indexed c.args.look ∙ sym (found_is _ c.place_order.ensures c.args.look c.in_ok-at.at c.in_ok-at.ensures c.self.inside.places.keys) ∙ sym c.contains.ensures ∙ c.if-contains.false in
    let grown = c.push_reserved.ensures.items ∙ (λ i. c.in_ok-reserve-in-Some.ensures.items i ++ c.args.look ∷ []) in
    let e : looked c.args.look (record { looks = looks; writes = writes }) ≡ Some (record { looks = c.push_reserved.new.self.items; writes = writes }) =
    looked_more c.args.look looks c.push_reserved.new.self.items writes c.self.inside.items c.in-Some.items new c.self.invariant.counted (sym c.total.ensures ∙ c.in-Some.is) grown in
    let v = c.self.view_is in
    first_of (search rules, grind arith)
