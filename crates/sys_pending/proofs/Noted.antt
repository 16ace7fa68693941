-- After a note the index stands as the rows say.
use Rattle.std.proofs.Common.{◌≡◌, Bool, true, false, cond, List, Option, Some, None, refl, sym, ap, ◌∙◌}
use Rattle.std.specs.Prelude.{T, if◌then◌else◌}
use Rattle.std.specs.Ordering.{eq_by_cmp}
use Rattle.std.specs.FinMap.Entries.{find, put, is_sorted, find-put, is_sorted-put}
use Rattle.std.proofs.lemmas.Map.Lookups.{btree_set_from_contains}
use Rattle.r3_rows.specs.declared.rows.FlowRow.{FlowRow}
use Rattle.sys_queue.specs.Lines.{Text, Place, bytes_cmp}
use Rattle.sys_queue.specs.Rows.{Rows, is_pending}
use Rattle.sys_pending.specs.Index.{IsIndexOf, Follows}
use Rattle.sys_pending.specs.Moves.{place_at, is_at, has_place, AreRising, Enters, Leaves}
use Rattle.sys_pending.proofs.Places.{ids_total, places_total, places_exact, same_id, same_place, untied, apart, places, has_row}
use Rattle.sys_pending.proofs.Rising.{rising_rows}

-- lists in order with the same places are the same
same_places : (ps qs : List Place) → AreRising ps → AreRising qs → ((q : Place) → has_place q ps ≡ has_place q qs) → ps ≡ qs
same_places ps qs rise_p rise_q same = btree_set_from_contains places_total (record { keys = ps }) (record { keys = qs }) rise_p rise_q same places_exact

pub not_both : (b : Bool) → b ≡ true → b ≡ false → ⊥
not_both true t f = absurd cc
not_both false t f = absurd cc

true_from : (b : Bool) → T b → b ≡ true
true_from true h = refl
true_from false h = absurd h

sorted_after : (id : Text) (row : FlowRow) (rows : Rows) → is_sorted bytes_cmp rows ≡ true → is_sorted bytes_cmp (put bytes_cmp id row rows) ≡ true
sorted_after id row rows s = true_from _ (is_sorted-put bytes_cmp ids_total id row rows (rw s tt))

-- the list stands as the rows with the new one say, if its places do
index_after : (new : List Place) (id : Text) (row : FlowRow) (rows : Rows) → is_sorted bytes_cmp rows ≡ true → AreRising new
    → ((q : Place) → has_place q new ≡ is_at (place_at q.1 (cond (eq_by_cmp bytes_cmp q.1 id) (Some row) (find bytes_cmp q.1 rows))) q) → IsIndexOf new (put bytes_cmp id row rows)
index_after new id row rows sorted rise has =
    let later = sorted_after id row rows sorted in
    record {
      sorted = later;
      places = same_places new (places (put bytes_cmp id row rows)) rise (rising_rows (put bytes_cmp id row rows) later)
          (λ q. has q ∙ ap (λ (o : Option FlowRow). is_at (place_at q.1 o) q) (sym (find-put bytes_cmp ids_total q.1 id row rows)) ∙ sym (has_row q (put bytes_cmp id row rows) later));
    }

-- where the index had the ID
stood : (old : List Place) (rows : Rows) (q : Place) (o : Option FlowRow) → IsIndexOf old rows → find bytes_cmp q.1 rows ≡ o → has_place q old ≡ is_at (place_at q.1 o) q
stood old rows q o index there = ap (has_place q) index.places ∙ has_row q rows index.sorted ∙ ap (λ (x : Option FlowRow). is_at (place_at q.1 x) q) there

-- nobody of another ID stands there
elsewhere_if : (id : Text) (row : FlowRow) (q : Place) (b : Bool) → (q.1 ≡ id → ⊥) → is_at (if b then Some (row.started, id) else None) q ≡ false
elsewhere_if id row q true apart = untied (row.started, id) q _ refl (λ same. apart (sym same))
elsewhere_if id row q false apart = refl

elsewhere : (id : Text) (o : Option FlowRow) (q : Place) → (q.1 ≡ id → ⊥) → is_at (place_at id o) q ≡ false
elsewhere id None q apart = refl
elsewhere id (Some row) q apart = elsewhere_if id row q (is_pending row.status) apart

at_place : (o : Option Place) (q : Place) → is_at o q ≡ true → o ≡ Some q
at_place None q e = absurd cc
at_place (Some p) q e = ap Some (same_place p q e)

-- it left and came, at places that differ
moved : (n m h g c : Bool) → m ≡ (if c then true else h) → n ≡ (if g then false else m) → h ≡ g → (g ≡ true → c ≡ true → ⊥) → n ≡ c
moved n m h true true came went was never = absurd (never refl refl)
moved n m h true false came went was never = went
moved n m h false true came went was never = went ∙ came
moved n m h false false came went was never = went ∙ came ∙ was

unmoved : (n m h g c : Bool) → m ≡ (if c then true else h) → n ≡ (if g then false else m) → g ≡ false → c ≡ false → n ≡ h
unmoved n m h g c came went is_g is_c = went ∙ ap (λ (b : Bool). if b then false else m) is_g ∙ came ∙ ap (λ (b : Bool). if b then true else h) is_c

module _ (id : Text) (before : Option FlowRow) (row : FlowRow) where
  abbrev gone : Option Place
  gone = place_at id before

  abbrev came : Option Place
  came = place_at id (Some row)

  module _ (old mid new : List Place) (rows : Rows) (index : IsIndexOf old rows) (there : find bytes_cmp id rows ≡ before) (moves : gone ≡ came → ⊥) (e : Enters came old mid) (l : Leaves gone mid new) where
    moves_at : (q : Place) (t : Bool) → eq_by_cmp bytes_cmp q.1 id ≡ t → has_place q new ≡ is_at (place_at q.1 (cond t (Some row) (find bytes_cmp q.1 rows))) q
    moves_at q true tie =
        let same : q.1 ≡ id = same_id q.1 id tie in
        let was : has_place q old ≡ is_at gone q =
        stood old rows q before index (ap (λ (x : Text). find bytes_cmp x rows) same ∙ there) ∙ ap (λ (x : Text). is_at (place_at x before) q) same in
        moved (has_place q new) (has_place q mid) (has_place q old) (is_at gone q) (is_at came q) (e.has q) (l.has q) was
        (λ at_gone at_came. moves (at_place gone q at_gone ∙ sym (at_place came q at_came)))
        ∙ ap (λ (x : Text). is_at (place_at x (Some row)) q) (sym same)
    moves_at q false tie =
        let far : q.1 ≡ id → ⊥ = apart q.1 id tie in
        unmoved (has_place q new) (has_place q mid) (has_place q old) (is_at gone q) (is_at came q) (e.has q) (l.has q) (elsewhere id before q far) (elsewhere id (Some row) q far)
        ∙ stood old rows q (find bytes_cmp q.1 rows) index refl

pub follows_move : (old mid new : List Place) (id : Text) (before : Option FlowRow) (row : FlowRow) → (place_at id before ≡ place_at id (Some row) → ⊥) → Enters (place_at id (Some row)) old mid → Leaves (place_at id before) mid new
    → Follows old new id before row
follows_move old mid new id before row moves e l rows index there =
    index_after new id row rows index.sorted (l.rising (e.rising (rw index.places (rising_rows rows index.sorted))))
    (λ q. moves_at id before row old mid new rows index there moves e l q (eq_by_cmp bytes_cmp q.1 id) refl)

-- a workflow that stays where it is
keeps_at : (old : List Place) (id : Text) (before : Option FlowRow) (row : FlowRow) (rows : Rows) (q : Place) (t : Bool) → eq_by_cmp bytes_cmp q.1 id ≡ t → place_at id before ≡ place_at id (Some row) → IsIndexOf old rows → find bytes_cmp id rows ≡ before
    → has_place q old ≡ is_at (place_at q.1 (cond t (Some row) (find bytes_cmp q.1 rows))) q
keeps_at old id before row rows q true tie stays index there =
    let same : q.1 ≡ id = same_id q.1 id tie in
    stood old rows q before index (ap (λ (x : Text). find bytes_cmp x rows) same ∙ there) ∙ ap (λ (x : Text). is_at (place_at x before) q) same
    ∙ ap (λ (o : Option Place). is_at o q) stays ∙ ap (λ (x : Text). is_at (place_at x (Some row)) q) (sym same)
keeps_at old id before row rows q false tie stays index there = stood old rows q (find bytes_cmp q.1 rows) index refl

pub follows_keep : (old : List Place) (id : Text) (before : Option FlowRow) (row : FlowRow) → place_at id before ≡ place_at id (Some row) → Follows old old id before row
follows_keep old id before row stays rows index there =
    index_after old id row rows index.sorted (rw index.places (rising_rows rows index.sorted))
    (λ q. keeps_at old id before row rows q (eq_by_cmp bytes_cmp q.1 id) refl stays index there)
