-- From what a queue tells of itself to what the rows say.
use Rattle.std.proofs.Common.{◌≡◌, ℕ, List, [], get_or, Option, Some, None, Bool, true, false, refl, ap, sym, subst, ◌∙◌}
use Rattle.std.specs.Prelude.{◌==◌}
use Rattle.std.specs.Cmp.{IsTotalOrder}
use Rattle.std.specs.Ordering.{is_gt, ordering_reverse}
use Rattle.std.specs.FinMap.Entries.{find}
use Rattle.std.proofs.lemmas.Cmp.{nat_cmp_total, nat_list_cmp_total, then_total, on_total}
use Rattle.std.specs.declared.cmp.Ordering.TheVariants.{Less, Greater}
use Rattle.r3_rows.specs.declared.rows.FlowRow.{FlowRow}
use Rattle.sys_queue.specs.Lines.{Text, Place, Line, bytes_cmp, place_cmp, line_of, has_place}
use Rattle.sys_queue.specs.Rows.{Rows, is_waiting, IsNext, NoneWaits, Tells}
use Rattle.sys_queue.specs.Index.{is_place, IsLineOf, IsIndexOf}
use Rattle.sys_queue.specs.Found.{StandsAt}
use Rattle.sys_queue.proofs.Changed.{line_at}
use Rattle.sys_queue.specs.Told.{IsLeast, TellsLine}
use Rattle.sys_queue.specs.declared.next.Next.{Next}
use Rattle.sys_queue.specs.declared.next.Next.TheVariants.{Ready, Empty, Limit}
use Rattle.sys_queue.proofs.Follows.{both_true, nat_same, nat_itself}

total : IsTotalOrder place_cmp
total = then_total (on_total (λ (p : Place). p.0) nat_cmp_total) (on_total (λ (p : Place). p.1) nat_list_cmp_total)

waits_there : (name id : Text) (rows : Rows) (l : Line) (r : FlowRow) → IsLineOf name l rows → find bytes_cmp id rows ≡ Some r → is_waiting name r ≡ true → has_place (r.started, id) l ≡ true
waits_there name id rows l r is stands waits = is.waiting (r.started, id) ∙ rw (stands, waits) (nat_itself r.started)

never_greater : (p q : Place) → is_gt (place_cmp p q) ≡ false → place_cmp q p ≡ Less → ⊥
never_greater p q least lt =
    let gt : place_cmp p q ≡ Greater = total.antisymm p q ∙ ap ordering_reverse lt in
    let no : true ≡ false = rw gt at least in
    absurd cc

next_of : (name id : Text) (rows : Rows) (l : Line) (started : ℕ) (o : Option FlowRow) → find bytes_cmp id rows ≡ o → is_place name started o ≡ true → IsLineOf name l rows → IsLeast l (started, id) → IsNext rows name id
next_of name id rows l started None stands e is least = absurd cc
next_of name id rows l started (Some row) stands e is least =
    let parts = both_true (is_waiting name row) (row.started == started) e in
    let same : row.started ≡ started = nat_same row.started started parts.1 in
    record {
      row = row;
      stands = stands;
      waits = parts.0;
      first = λ other r found waits lt.
          never_greater (started, id) (r.started, other) (least.least (r.started, other) (waits_there name other rows l r is found waits)) (rw (← same) lt);
    }

none_by : (name id : Text) (rows : Rows) (l : Line) → IsLineOf name l rows → l.waiting ≡ [] → (r : FlowRow) (b : Bool) → is_waiting name r ≡ b → find bytes_cmp id rows ≡ Some r → b ≡ false
none_by name id rows l is empty r true w stands =
    let there : has_place (r.started, id) l ≡ true = waits_there name id rows l r is stands w in
    let no : false ≡ true = rw empty at there in
    absurd cc
none_by name id rows l is empty r false w stands = refl

none_waits : (name : Text) (rows : Rows) (l : Line) → IsLineOf name l rows → l.waiting ≡ [] → NoneWaits rows name
none_waits name rows l is empty id r stands = none_by name id rows l is empty r (is_waiting name r) refl stands

pub told : (rows : Rows) (name : Text) (l : Line) (r : Next) → IsLineOf name l rows → TellsLine l r → Tells rows name l.bound r
told rows name l (Ready id) is t =
    let place : is_place name t.1.0 (find bytes_cmp id.now rows) ≡ true = sym (is.waiting (t.1.0, id.now)) ∙ t.1.1.stands in
    (rw (← is.running) t.0, next_of name id.now rows l t.1.0 (find bytes_cmp id.now rows) refl place is t.1.1)
told rows name l Empty is t = (rw (← is.running) t.0, none_waits name rows l is t.1)
told rows name l (Limit running) is t = (rw (← is.running) t.0, t.1 ∙ is.running)

-- the queue at place i tells for the list
pub told_at : (rows : Rows) (ls : List Line) (name : Text) (i : ℕ) (d l : Line) (r : Next) → StandsAt name ls i → d ≡ get_or ls i d → IsIndexOf ls rows → line_of name ls ≡ Some l → TellsLine d r → Tells rows name l.bound r
told_at rows ls name i d l r at is index e t =
    let both : Some (get_or ls i d) ≡ Some l = sym (line_at name ls i d at) ∙ e in
    let same : get_or ls i d ≡ l = cc in
    told rows name l r (index.each name l e) (subst (λ (x : Line). TellsLine x r) (is ∙ same) t)
