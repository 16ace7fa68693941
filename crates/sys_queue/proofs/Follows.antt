-- After a note the queues stand as the rows say.
use Rattle.std.proofs.Common.{◌≡◌, ℕ, ◌+◌, ◌-◌, ◌^◌, ◌<◌, ◌≤◌, List, [], ◌∷◌, length, filter, Option, Some, None, Bool, true, false, cond, min, refl, ap, sym, ◌∙◌, arith}
use Rattle.std.specs.Prelude.{IsTrue, T, if◌then◌else◌, ◌&&◌, ◌==◌}
use Rattle.std.specs.Bool.{MatchBool}
use Rattle.std.specs.Cmp.{IsTotalOrder, tied_itself}
use Rattle.std.specs.Ordering.{nat_cmp, ordering_then, is_eq, is_lt, eq_by_cmp}
use Rattle.std.specs.FinMap.{IsAntisymmetric, nat_cmp-IsAntisymmetric, slice_cmp-IsAntisymmetric}
use Rattle.std.specs.FinMap.Entries.{find, put, is_sorted, below_all, find-put, is_sorted-put}
use Rattle.std.proofs.lemmas.Cmp.{nat_cmp_total, nat_list_cmp_total}
use Rattle.std.specs.declared.cmp.Ordering.{Ordering}
use Rattle.std.specs.declared.cmp.Ordering.TheVariants.{Less, Equal, Greater}
use Rattle.r3_rows.specs.declared.rows.FlowRow.{FlowRow}
use Rattle.r3_rows.specs.declared.rows.Status.{Status}
use Rattle.r3_rows.specs.declared.rows.Status.TheVariants.{Enqueued, Pending, Success, Error, Cancelled, MaxRecoveryAttemptsExceeded}
use Rattle.sys_queue.specs.Lines.{Text, Place, Line, bytes_cmp, place_cmp, has_place}
use Rattle.sys_queue.specs.Rows.{Rows, is_enqueued, is_in, is_running, is_waiting, running_count}
use Rattle.sys_queue.specs.Index.{is_place, IsLineOf, Follows}
use Rattle.sys_queue.specs.Moves.{Enters, Leaves, Changes}
use Rattle.sys_queue.specs.Kept.{KeepsPlace}
use Rattle.sys_queue.proofs.Changed.{same_bytes}

total : IsTotalOrder bytes_cmp
total = nat_list_cmp_total

exact : IsAntisymmetric bytes_cmp
exact = slice_cmp-IsAntisymmetric nat_cmp-IsAntisymmetric

first : (a b : Bool) → T (a && b) → T a
first true b p = tt
first false b p = p

second : (a b : Bool) → T (a && b) → T b
second true b p = p
second false b p = absurd p

less : (o : Ordering) → T (is_lt o) → o ≡ Less
less Less p = refl
less Equal p = absurd p
less Greater p = absurd p

equal : (o : Ordering) → is_eq o ≡ true → o ≡ Equal
equal Less e = absurd cc
equal Equal e = refl
equal Greater e = absurd cc

both_equal : (a b : Ordering) → ordering_then a b ≡ Equal → (a ≡ Equal) × (b ≡ Equal)
both_equal Less b e = absurd cc
both_equal Equal b e = (refl, e)
both_equal Greater b e = absurd cc

alike : (a b : Bool) → (a ≡ true → b ≡ true) → (b ≡ true → a ≡ true) → a ≡ b
alike true true f g = refl
alike true false f g = sym (f refl)
alike false true f g = g refl
alike false false f g = refl

true_from : (b : Bool) → T b → b ≡ true
true_from true h = refl
true_from false h = absurd h

pub both_true : (a b : Bool) → (a && b) ≡ true → (a ≡ true) × (b ≡ true)
both_true true b e = (refl, e)
both_true false b e = absurd cc

-- ---- places

tied_parts : (m : ℕ) (a : Text) (q : Place) → eq_by_cmp place_cmp (m, a) q ≡ true → (m ≡ q.0) × (a ≡ q.1)
tied_parts m a q e =
    let parts = both_equal (nat_cmp m q.0) (bytes_cmp a q.1) (equal (place_cmp (m, a) q) e) in
    (nat_cmp-IsAntisymmetric m q.0 parts.0, exact a q.1 parts.1)

pub nat_same : (m n : ℕ) → (m == n) ≡ true → m ≡ n
nat_same m n e = grind arith

pub nat_itself : (m : ℕ) → (m == m) ≡ true
nat_itself m = grind arith

-- at the same ID the places are told apart by the entries
tied_there : (m : ℕ) (id : Text) (q : Place) → q.1 ≡ id → eq_by_cmp place_cmp (m, id) q ≡ (m == q.0)
tied_there m id q there = alike (eq_by_cmp place_cmp (m, id) q) (m == q.0)
    (λ t. rw (tied_parts m id q t).0 (nat_itself q.0))
    (λ e. rw (nat_same m q.0 e, there, tied_itself nat_cmp_total q.0, tied_itself total id) refl)

untied : (m : ℕ) (id : Text) (q : Place) (b : Bool) → eq_by_cmp place_cmp (m, id) q ≡ b → (q.1 ≡ id → ⊥) → b ≡ false
untied m id q true t elsewhere = absurd (elsewhere (sym (tied_parts m id q t).1))
untied m id q false t elsewhere = refl

-- ---- how many run

abbrev flag : Bool → ℕ
flag b = cond b 1 0

abbrev was : (FlowRow → Bool) → Option FlowRow → ℕ
was p None = 0
was p (Some row) = flag (p row)

flag_le : (b : Bool) → flag b ≤ 1
flag_le true = omega arith
flag_le false = omega arith

-- a key that comes before all isn't found
not_found : (id : Text) (es : Rows) (e : Text × FlowRow) → bytes_cmp id e.0 ≡ Less → T (below_all bytes_cmp e.0 es) → find bytes_cmp id es ≡ None
not_found id [] e l h = refl
not_found id (f ∷ es) e l h =
    let here : bytes_cmp id f.0 ≡ Less = total.trans id e.0 f.0 l (less _ (first _ _ h)) in
    rw here (not_found id es e l (second _ _ h))

abbrev counted : (FlowRow → Bool) → Rows → ℕ
counted p rows = length (filter (λ (f : Text × FlowRow). p f.1) rows)

one_more : (b : Bool) (e : Text × FlowRow) (es : Rows) → length (cond b (e ∷ es) es) ≡ flag b + length es
one_more true e es = omega arith
one_more false e es = omega arith

counted_cons : (p : FlowRow → Bool) (e : Text × FlowRow) (es : Rows) → counted p (e ∷ es) ≡ flag (p e.1) + counted p es
counted_cons p e es = one_more (p e.1) e (filter (λ (f : Text × FlowRow). p f.1) es)

counted_le : (p : FlowRow → Bool) (rows : Rows) → counted p rows ≤ length rows
counted_le p [] = omega arith
counted_le p (e ∷ es) = omega (arith, counted_cons p e es, counted_le p es, flag_le (p e.1))

sum_less : (p : FlowRow → Bool) (id : Text) (row : FlowRow) (e : Text × FlowRow) (es xs : Rows) (o : Option FlowRow) → xs ≡ (id, row) ∷ e ∷ es → o ≡ None → counted p xs + was p o ≡ counted p (e ∷ es) + flag (p row)
sum_less p id row e es xs o a b = rw (a, b) (omega (arith, counted_cons p (id, row) (e ∷ es)))

sum_equal : (p : FlowRow → Bool) (row : FlowRow) (e : Text × FlowRow) (es xs : Rows) (o : Option FlowRow) → xs ≡ (e.0, row) ∷ es → o ≡ Some e.1 → counted p xs + was p o ≡ counted p (e ∷ es) + flag (p row)
sum_equal p row e es xs o a b = rw (a, b) (omega (arith, counted_cons p (e.0, row) es, counted_cons p e es))

sum_greater : (p : FlowRow → Bool) (row : FlowRow) (e : Text × FlowRow) (es ys xs : Rows) (o : Option FlowRow) → xs ≡ e ∷ ys → counted p ys + was p o ≡ counted p es + flag (p row) → counted p xs + was p o ≡ counted p (e ∷ es) + flag (p row)
sum_greater p row e es ys xs o a h = rw a (omega (arith, counted_cons p e ys, counted_cons p e es, h))

sum_none : (p : FlowRow → Bool) (id : Text) (row : FlowRow) → counted p ((id, row) ∷ []) + 0 ≡ 0 + flag (p row)
sum_none p id row = omega (arith, counted_cons p (id, row) [])

found_past : (id : Text) (e : Text × FlowRow) (es : Rows) → bytes_cmp id e.0 ≡ Greater → find bytes_cmp id (e ∷ es) ≡ find bytes_cmp id es
found_past id e es g = rw g refl

counted_put : (p : FlowRow → Bool) (id : Text) (row : FlowRow) (rows : Rows) → T (is_sorted bytes_cmp rows)
    → counted p (put bytes_cmp id row rows) + was p (find bytes_cmp id rows) ≡ counted p rows + flag (p row)
counted_put p id row [] s = sum_none p id row
counted_put p id row (e ∷ es) s =
    elim (bytes_cmp id e.0) as (λ o. bytes_cmp id e.0 ≡ o → counted p (put bytes_cmp id row (e ∷ es)) + was p (find bytes_cmp id (e ∷ es)) ≡ counted p (e ∷ es) + flag (p row)) [
      | Less ↦ λ l. sum_less p id row e es (put bytes_cmp id row (e ∷ es)) (find bytes_cmp id (e ∷ es)) (rw l refl) (rw l (not_found id es e l (first _ _ s)))
      | Equal ↦ λ q. sum_equal p row e es (put bytes_cmp id row (e ∷ es)) (find bytes_cmp id (e ∷ es)) (rw q refl) (rw q refl)
      | Greater ↦ λ g. rw (found_past id e es g) (sum_greater p row e es (put bytes_cmp id row es) (put bytes_cmp id row (e ∷ es)) (find bytes_cmp id es) (rw g refl) (counted_put p id row es (second _ _ s)))
    ] refl

-- ---- what a queue that may have been entered or left has

pub record Entered (name id : Text) (row : FlowRow) (l n : Line) : Type 0 where
  pub running : n.running ≡ (if is_running name row then min (l.running + 1) (2 ^ 32 - 1) else l.running)
  pub waiting : (q : Place) → has_place q n ≡ (if is_waiting name row then (if eq_by_cmp place_cmp (row.started, id) q then true else has_place q l) else has_place q l)

pub record Left (name id : Text) (row : FlowRow) (l n : Line) : Type 0 where
  pub running : n.running ≡ (if is_running name row then l.running - 1 else l.running)
  pub waiting : (q : Place) → has_place q n ≡ (if is_waiting name row then (if eq_by_cmp place_cmp (row.started, id) q then false else has_place q l) else has_place q l)

entered_by : (name id : Text) (row : FlowRow) (l n : Line) (b : Bool) → is_in name row.queue ≡ b → MatchBool b (Enters row.status (row.started, id) l n) (n ≡ l) → Entered name id row l n
entered_by name id row l n true t m = record { running = rw t m.running; waiting = λ q. rw t (m.waiting q) }
entered_by name id row l n false t m = record { running = rw (t, m) refl; waiting = λ q. rw (t, m) refl }

left_by : (name id : Text) (row : FlowRow) (l n : Line) (b : Bool) → is_in name row.queue ≡ b → MatchBool b (Leaves row.status (row.started, id) l n) (n ≡ l) → Left name id row l n
left_by name id row l n true t m = record { running = rw t m.running; waiting = λ q. rw t (m.waiting q) }
left_by name id row l n false t m = record { running = rw (t, m) refl; waiting = λ q. rw (t, m) refl }

-- ---- a workflow that stood nowhere

started_running : (c n l m : ℕ) (r : Bool) → n ≡ (if r then min (l + 1) (2 ^ 32 - 1) else l) → l ≡ c → c < 2 ^ 32 - 1 → m + 0 ≡ c + flag r → n ≡ m
started_running c n l m true a b lt d = omega arith
started_running c n l m false a b lt d = omega arith

-- entered where it waits (w) and ties (x), after a place that was free (h)
started_there : (n h w x : Bool) → n ≡ (if w then (if x then true else h) else h) → h ≡ false → n ≡ (w && x)
started_there n h true true a b = rw a refl
started_there n h true false a b = rw (a, b) refl
started_there n h false x a b = rw (a, b) refl

elsewhere : (n h w x : Bool) → n ≡ (if w then (if x then true else h) else h) → x ≡ false → n ≡ h
elsewhere n h true x a b = rw (a, b) refl
elsewhere n h false x a b = rw a refl

left_elsewhere : (n h w x : Bool) → n ≡ (if w then (if x then false else h) else h) → x ≡ false → n ≡ h
left_elsewhere n h true x a b = rw (a, b) refl
left_elsewhere n h false x a b = rw a refl

found_after : (id : Text) (row : FlowRow) (rows : Rows) (q : Place) → find bytes_cmp q.1 (put bytes_cmp id row rows) ≡ cond (eq_by_cmp bytes_cmp q.1 id) (Some row) (find bytes_cmp q.1 rows)
found_after id row rows q = find-put bytes_cmp total q.1 id row rows

tied_id : (id other : Text) → eq_by_cmp bytes_cmp other id ≡ true → other ≡ id
tied_id id other e = exact other id (equal (bytes_cmp other id) e)

apart : (id other : Text) (b : Bool) → eq_by_cmp bytes_cmp other id ≡ b → b ≡ false → other ≡ id → ⊥
apart id other true t f same = absurd cc
apart id other false t f same =
    let ties : eq_by_cmp bytes_cmp other id ≡ true = rw (same, tied_itself total id) refl in
    let no : true ≡ false = sym ties ∙ t in
    absurd cc

sorted_after : (id : Text) (row : FlowRow) (rows : Rows) → IsTrue (is_sorted bytes_cmp rows) → IsTrue (is_sorted bytes_cmp (put bytes_cmp id row rows))
sorted_after id row rows s = true_from _ (is_sorted-put bytes_cmp total id row rows (rw s tt))

start_place : (name id : Text) (row : FlowRow) (rows : Rows) (l n : Line) (q : Place) (t : Bool) → eq_by_cmp bytes_cmp q.1 id ≡ t → IsLineOf name l rows → find bytes_cmp id rows ≡ None → Entered name id row l n
    → has_place q n ≡ is_place name q.0 (cond t (Some row) (find bytes_cmp q.1 rows))
start_place name id row rows l n q true t is none e =
    let same : q.1 ≡ id = tied_id id q.1 t in
    let free : has_place q l ≡ false = is.waiting q ∙ rw (same, none) refl in
    started_there (has_place q n) (has_place q l) (is_waiting name row) (row.started == q.0) (rw (← tied_there row.started id q same) (e.waiting q)) free
start_place name id row rows l n q false t is none e =
    elsewhere (has_place q n) (has_place q l) (is_waiting name row) (eq_by_cmp place_cmp (row.started, id) q) (e.waiting q) (untied row.started id q _ refl (apart id q.1 false t refl)) ∙ is.waiting q

start_line : (name id : Text) (row : FlowRow) (rows : Rows) (l n : Line) → IsTrue (is_sorted bytes_cmp rows) → length rows < 2 ^ 32 - 1 → IsLineOf name l rows → find bytes_cmp id rows ≡ None → Entered name id row l n → IsLineOf name n (put bytes_cmp id row rows)
start_line name id row rows l n s few is none e =
    let sum = counted_put (is_running name) id row rows (rw s tt) in
    let sum' : running_count name (put bytes_cmp id row rows) + 0 ≡ running_count name rows + flag (is_running name row) = rw none at sum in
    record {
      running = started_running (running_count name rows) n.running l.running (running_count name (put bytes_cmp id row rows)) (is_running name row) e.running is.running (omega (arith, counted_le (is_running name) rows)) sum';
      waiting = λ q. rw (found_after id row rows q) (start_place name id row rows l n q (eq_by_cmp bytes_cmp q.1 id) refl is none e);
    }

pub follows_start : (old new : List Line) (id : Text) (row : FlowRow) → Changes row.queue (Enters row.status (row.started, id)) old new → Follows old new id None row
follows_start old new id row moved rows index none few = record {
  sorted = sorted_after id row rows index.sorted;
  each = λ name n e.
      let had = moved.each name n e in
      start_line name id row rows had.line n index.sorted few (index.each name had.line had.stood) none (entered_by name id row had.line n (is_in name row.queue) refl had.moved);
}

-- ---- a workflow that stays

kept_place : (name id : Text) (b row : FlowRow) (rows : Rows) (l : Line) (q : Place) (t : Bool) → eq_by_cmp bytes_cmp q.1 id ≡ t → IsLineOf name l rows → find bytes_cmp id rows ≡ Some b → KeepsPlace b row
    → has_place q l ≡ is_place name q.0 (cond t (Some row) (find bytes_cmp q.1 rows))
kept_place name id b row rows l q true t is before k =
    let same : q.1 ≡ id = tied_id id q.1 t in
    let there : find bytes_cmp q.1 rows ≡ Some b = rw same before in
    is.waiting q ∙ ap (is_place name q.0) there ∙ rw (k.status, k.queue, k.started) refl
kept_place name id b row rows l q false t is before k = is.waiting q

kept_running : (l c m : ℕ) (r rb : Bool) → l ≡ c → rb ≡ r → m + flag rb ≡ c + flag r → l ≡ m
kept_running l c m true true a e d = omega arith
kept_running l c m false false a e d = omega arith
kept_running l c m true false a e d = absurd cc
kept_running l c m false true a e d = absurd cc

kept_line : (name id : Text) (b row : FlowRow) (rows : Rows) (l : Line) → IsTrue (is_sorted bytes_cmp rows) → IsLineOf name l rows → find bytes_cmp id rows ≡ Some b → KeepsPlace b row → IsLineOf name l (put bytes_cmp id row rows)
kept_line name id b row rows l s is before k =
    let sum : running_count name (put bytes_cmp id row rows) + flag (is_running name b) ≡ running_count name rows + flag (is_running name row) = rw before at (counted_put (is_running name) id row rows (rw s tt)) in
    let same : is_running name b ≡ is_running name row = rw (k.status, k.queue) refl in
    record {
      running = kept_running l.running (running_count name rows) (running_count name (put bytes_cmp id row rows)) (is_running name row) (is_running name b) is.running same sum;
      waiting = λ q. rw (found_after id row rows q) (kept_place name id b row rows l q (eq_by_cmp bytes_cmp q.1 id) refl is before k);
    }

pub follows_keep : (ls : List Line) (id : Text) (b row : FlowRow) → KeepsPlace b row → Follows ls ls id (Some b) row
follows_keep ls id b row k rows index before few = record {
  sorted = sorted_after id row rows index.sorted;
  each = λ name n e. kept_line name id b row rows n index.sorted (index.each name n e) before k;
}

-- ---- a workflow that moves

moved_there : (n m h w x wb y : Bool) → m ≡ (if w then (if x then true else h) else h) → n ≡ (if wb then (if y then false else m) else m) → h ≡ (wb && y) → (wb ≡ true → y ≡ true → w ≡ true → x ≡ true → ⊥) → n ≡ (w && x)
moved_there n m h true true true true a b c never = absurd (never refl refl refl refl)
moved_there n m h true true true false a b c never = rw (b, a) refl
moved_there n m h true true false y a b c never = rw (b, a) refl
moved_there n m h true false true true a b c never = rw b refl
moved_there n m h true false true false a b c never = rw (b, a, c) refl
moved_there n m h true false false y a b c never = rw (b, a, c) refl
moved_there n m h false x true true a b c never = rw b refl
moved_there n m h false x true false a b c never = rw (b, a, c) refl
moved_there n m h false x false y a b c never = rw (b, a, c) refl

moved_running : (c n l k m : ℕ) (r rb : Bool) → k ≡ (if r then min (l + 1) (2 ^ 32 - 1) else l) → n ≡ (if rb then k - 1 else k) → l ≡ c → c < 2 ^ 32 - 1 → m + flag rb ≡ c + flag r → n ≡ m
moved_running c n l k m true true a b e lt d = omega arith
moved_running c n l k m true false a b e lt d = omega arith
moved_running c n l k m false true a b e lt d = omega arith
moved_running c n l k m false false a b e lt d = omega arith

enqueued_status : (s : Status) → is_enqueued s ≡ true → s ≡ Enqueued
enqueued_status Enqueued e = refl
enqueued_status Pending e = absurd cc
enqueued_status Success e = absurd cc
enqueued_status Error e = absurd cc
enqueued_status Cancelled e = absurd cc
enqueued_status MaxRecoveryAttemptsExceeded e = absurd cc

queue_named : (name : Text) (q : Option Text) → is_in name q ≡ true → q ≡ Some name
queue_named name None e = absurd cc
queue_named name (Some q) e = ap Some (sym (same_bytes name q e))

would_keep : (name : Text) (b row : FlowRow) (k : ℕ) → is_waiting name b ≡ true → (b.started == k) ≡ true → is_waiting name row ≡ true → (row.started == k) ≡ true → KeepsPlace b row
would_keep name b row k wb sb w s =
    let of_b = both_true (is_in name b.queue) (is_enqueued b.status) wb in
    let of_row = both_true (is_in name row.queue) (is_enqueued row.status) w in
    record {
      status = enqueued_status b.status of_b.1 ∙ sym (enqueued_status row.status of_row.1);
      started = nat_same b.started k sb ∙ sym (nat_same row.started k s);
      queue = queue_named name b.queue of_b.0 ∙ sym (queue_named name row.queue of_row.0);
    }

moved_place : (name id : Text) (b row : FlowRow) (rows : Rows) (l m n : Line) (q : Place) (t : Bool) → eq_by_cmp bytes_cmp q.1 id ≡ t → IsLineOf name l rows → find bytes_cmp id rows ≡ Some b → (KeepsPlace b row → ⊥) → Entered name id row l m → Left name id b m n
    → has_place q n ≡ is_place name q.0 (cond t (Some row) (find bytes_cmp q.1 rows))
moved_place name id b row rows l m n q true t is before moves e f =
    let same : q.1 ≡ id = tied_id id q.1 t in
    let there : find bytes_cmp q.1 rows ≡ Some b = rw same before in
    let stood : has_place q l ≡ (is_waiting name b && (b.started == q.0)) = is.waiting q ∙ ap (is_place name q.0) there in
    moved_there (has_place q n) (has_place q m) (has_place q l) (is_waiting name row) (row.started == q.0) (is_waiting name b) (b.started == q.0)
    (rw (← tied_there row.started id q same) (e.waiting q)) (rw (← tied_there b.started id q same) (f.waiting q)) stood
    (λ wb sb w s. moves (would_keep name b row q.0 wb sb w s))
moved_place name id b row rows l m n q false t is before moves e f =
    left_elsewhere (has_place q n) (has_place q m) (is_waiting name b) (eq_by_cmp place_cmp (b.started, id) q) (f.waiting q) (untied b.started id q _ refl (apart id q.1 false t refl))
    ∙ elsewhere (has_place q m) (has_place q l) (is_waiting name row) (eq_by_cmp place_cmp (row.started, id) q) (e.waiting q) (untied row.started id q _ refl (apart id q.1 false t refl)) ∙ is.waiting q

moved_line : (name id : Text) (b row : FlowRow) (rows : Rows) (l m n : Line) → IsTrue (is_sorted bytes_cmp rows) → length rows < 2 ^ 32 - 1 → IsLineOf name l rows → find bytes_cmp id rows ≡ Some b → (KeepsPlace b row → ⊥) → Entered name id row l m → Left name id b m n
    → IsLineOf name n (put bytes_cmp id row rows)
moved_line name id b row rows l m n s few is before moves e f =
    let sum : running_count name (put bytes_cmp id row rows) + flag (is_running name b) ≡ running_count name rows + flag (is_running name row) = rw before at (counted_put (is_running name) id row rows (rw s tt)) in
    record {
      running = moved_running (running_count name rows) n.running l.running m.running (running_count name (put bytes_cmp id row rows)) (is_running name row) (is_running name b) e.running f.running is.running (omega (arith, counted_le (is_running name) rows)) sum;
      waiting = λ q. rw (found_after id row rows q) (moved_place name id b row rows l m n q (eq_by_cmp bytes_cmp q.1 id) refl is before moves e f);
    }

pub follows_move : (old mid new : List Line) (id : Text) (b row : FlowRow) → (KeepsPlace b row → ⊥) → Changes row.queue (Enters row.status (row.started, id)) old mid → Changes b.queue (Leaves b.status (b.started, id)) mid new
    → Follows old new id (Some b) row
follows_move old mid new id b row moves came went rows index before few = record {
  sorted = sorted_after id row rows index.sorted;
  each = λ name n e.
      let out = went.each name n e in
      let in' = came.each name out.line out.stood in
      moved_line name id b row rows in'.line out.line n index.sorted few (index.each name in'.line in'.stood) before moves
      (entered_by name id row in'.line out.line (is_in name row.queue) refl in'.moved) (left_by name id b out.line n (is_in name b.queue) refl out.moved);
}
