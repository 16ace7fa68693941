-- The rule of queues tells the machine's next workflow.
use Rattle.std.proofs.Common.{◌≡◌, ◌≢◌, ℕ, suc, ◌≤◌, ◌<◌, Bool, true, false, cond, ◌&&◌, List, [], ◌∷◌, length, Option, Some, None, refl, sym, subst, ap, ◌∙◌, arith}
use Rattle.std.specs.Prelude.{filter, filter_map, option_and_then, if◌then◌else◌, nat_le}
use Rattle.std.specs.List.{AllByRecursion, cons_option}
use Rattle.std.specs.Ordering.{is_eq, is_lt, nat_cmp, ordering_then, ordering_reverse, MatchOrdering}
use Rattle.std.specs.Cmp.{ranks}
use Rattle.std.specs.declared.cmp.Ordering.{Ordering}
use Rattle.std.specs.declared.cmp.Ordering.TheVariants.{Less, Equal, Greater}
use Rattle.std.specs.FinMap.{nat_cmp-IsAntisymmetric, slice_cmp-IsAntisymmetric}
use Rattle.std.specs.FinMap.Entries.{find, is_sorted, below_all}
use Rattle.std.proofs.lemmas.Cmp.{nat_list_cmp_total, nat_cmp_total}
use Rattle.r3_rows.specs.declared.rows.Key.TheVariants as keys
use Rattle.r3_rows.specs.declared.rows.FlowRow.{FlowRow}
use Rattle.r3_rows.specs.Keys.{key_cmp, bytes_cmp}
use Rattle.r3_entry.specs.declared.entry.Entry.{Entry}
use Rattle.r3_entry.specs.History.{Map, map_at}
use Rattle.sys_queue.specs.Lines.{place_cmp}
use Rattle.sys_queue.specs.Rows.{Rows, Tells, is_running, is_waiting, running_count, IsNext, NoneWaits as RuleNone}
use Rattle.sys_queue.specs.declared.next.Next as rule
use Rattle.sys_queue.specs.declared.next.Next.TheVariants as tells
use Rattle.r3_model.specs.Language.{Text, Queue}
use Rattle.r3_model.specs.Rows.{Flow, flow_of, flow_seen, flows_at, placed, by_start}
use Rattle.r3_model.specs.Queues.{Next, Ready, Limited, first_of, next_of, running, waiting}
use Rattle.r3_laws.specs.OfQueues.{rows_of, IsSame, QueuesTell}
use Rattle.r3_laws.proofs.After.{tied}
use Rattle.r3_laws.proofs.Flows.{map_at-sorted, all-found}
use Rattle.r3_laws.proofs.InOrder.{parts, less}
use Rattle.r3_laws.proofs.TellsDequeue.{all-by_start, first-is}
use Rattle.r3_laws.proofs.CasesOf.{all-kept}

-- ---- the rows are sorted by their IDs

and-true : (a b : Bool) → a ≡ true → b ≡ true → (a && b) ≡ true
and-true true true p q = refl
and-true true false p q = absurd cc
and-true false b p q = absurd cc

below-seen : (id : Text) (o : Option FlowRow) (other : Text) (fs : List Flow) → is_lt (bytes_cmp id other) ≡ true → below_all bytes_cmp id (rows_of fs) ≡ true
    → below_all bytes_cmp id (rows_of (cons_option (option_and_then (λ (r : FlowRow). Some (record { id = other; row = r })) o) fs)) ≡ true
below-seen id None other fs lt below = below
below-seen id (Some r) other fs lt below = and-true (is_lt (bytes_cmp id other)) _ lt below

flow-lt : (a b : Text) → is_lt (key_cmp (keys.Flow a) (keys.Flow b)) ≡ true → is_lt (bytes_cmp a b) ≡ true
flow-lt a b is = then-lt (bytes_cmp a b) is where
  then-lt : (o : Ordering) → is_lt (ordering_then o Equal) ≡ true → is_lt o ≡ true
  then-lt Less is = refl
  then-lt Equal is = absurd cc
  then-lt Greater is = absurd cc

pub below-flows : (id : Text) (ps : Map) → below_all key_cmp (keys.Flow id) ps ≡ true → below_all bytes_cmp id (rows_of (filter_map flow_seen ps)) ≡ true
below-flows id [] below = refl
below-flows id ((keys.User table key, w) ∷ ps) below = below-flows id ps (parts (is_lt (key_cmp (keys.Flow id) (keys.User table key))) (below_all key_cmp (keys.Flow id) ps) below).1
below-flows id ((keys.Step i n, w) ∷ ps) below = below-flows id ps (parts (is_lt (key_cmp (keys.Flow id) (keys.Step i n))) (below_all key_cmp (keys.Flow id) ps) below).1
below-flows id ((keys.Flow other, w) ∷ ps) below =
    let p = parts (is_lt (key_cmp (keys.Flow id) (keys.Flow other))) (below_all key_cmp (keys.Flow id) ps) below in
    below-seen id (option_and_then flow_of w.1) other (filter_map flow_seen ps) (flow-lt id other p.0) (below-flows id ps p.1)

sorted-seen : (id : Text) (o : Option FlowRow) (fs : List Flow) → below_all bytes_cmp id (rows_of fs) ≡ true → is_sorted bytes_cmp (rows_of fs) ≡ true
    → is_sorted bytes_cmp (rows_of (cons_option (option_and_then (λ (r : FlowRow). Some (record { id = id; row = r })) o) fs)) ≡ true
sorted-seen id None fs below sorted = sorted
sorted-seen id (Some r) fs below sorted = and-true (below_all bytes_cmp id (rows_of fs)) _ below sorted

pub sorted-flows : (ps : Map) → is_sorted key_cmp ps ≡ true → is_sorted bytes_cmp (rows_of (filter_map flow_seen ps)) ≡ true
sorted-flows [] sorted = refl
sorted-flows ((keys.User table key, w) ∷ ps) sorted = sorted-flows ps (parts (below_all key_cmp (keys.User table key) ps) (is_sorted key_cmp ps) sorted).1
sorted-flows ((keys.Step i n, w) ∷ ps) sorted = sorted-flows ps (parts (below_all key_cmp (keys.Step i n) ps) (is_sorted key_cmp ps) sorted).1
sorted-flows ((keys.Flow id, w) ∷ ps) sorted =
    let p = parts (below_all key_cmp (keys.Flow id) ps) (is_sorted key_cmp ps) sorted in
    sorted-seen id (option_and_then flow_of w.1) (filter_map flow_seen ps) (below-flows id ps p.0) (sorted-flows ps p.1)

-- ---- the first is the least

abbrev NotBefore : Flow → Flow → Type 0
NotBefore f m = place_cmp (m.row.started, m.id) (f.row.started, f.id) ≢ Less

not-less : (m n : ℕ) (c o : Ordering) → MatchOrdering c (m < n) (m ≡ n) (n < m) → n ≤ m → (m ≡ n → o ≢ Less) → ordering_then c o ≢ Less
not-less m n Less o is le same = absurd (omega (arith, is, le))
not-less m n Equal o is le same = same is
not-less m n Greater o is le same = λ z. (let clash : Greater ≡ Less = z in cc)

not-above : (m n : ℕ) (c o : Ordering) → MatchOrdering c (m < n) (m ≡ n) (n < m) → ordering_then c o ≢ Less → n ≤ m
not-above m n Less o is h = absurd (h refl)
not-above m n Equal o is h = omega (arith, is)
not-above m n Greater o is h = omega (arith, is)

not-before : (f m : Flow) → f.row.started ≤ m.row.started → (m.row.started ≡ f.row.started → bytes_cmp m.id f.id ≢ Less) → NotBefore f m
not-before f m le same = not-less m.row.started f.row.started (nat_cmp m.row.started f.row.started) (bytes_cmp m.id f.id) (ranks m.row.started f.row.started) le same

started-le : (f m : Flow) → NotBefore f m → f.row.started ≤ m.row.started
started-le f m h = not-above m.row.started f.row.started (nat_cmp m.row.started f.row.started) (bytes_cmp m.id f.id) (ranks m.row.started f.row.started) h

own-reverse : (o : Ordering) → o ≡ ordering_reverse o → o ≢ Less
own-reverse Less e = λ z. (let clash : Less ≡ Greater = e in cc)
own-reverse Equal e = λ z. (let clash : Equal ≡ Less = z in cc)
own-reverse Greater e = λ z. (let clash : Greater ≡ Less = z in cc)

not-itself : (f : Flow) → NotBefore f f
not-itself f = not-before f f (omega arith) (λ same. own-reverse (bytes_cmp f.id f.id) (nat_list_cmp_total.antisymm f.id f.id))

-- an ID that stands behind isn't before
behind : (a b : Text) → is_lt (bytes_cmp a b) ≡ true → bytes_cmp b a ≢ Less
behind a b lt z =
    let above : bytes_cmp b a ≡ Greater = nat_list_cmp_total.antisymm b a ∙ ap ordering_reverse (less (bytes_cmp a b) lt) in
    (let clash : Greater ≡ Less = sym above ∙ z in cc)

-- what the first of the later ones isn't after, an earlier one with a lower ID isn't either
all-behind : (x g : Flow) (ms : List Flow) → x.row.started ≤ g.row.started → below_all bytes_cmp x.id (rows_of ms) ≡ true → AllByRecursion (NotBefore g) ms → AllByRecursion (NotBefore x) ms
all-behind x g [] le below all = tt
all-behind x g (m ∷ ms) le below all =
    let p = parts (is_lt (bytes_cmp x.id m.id)) (below_all bytes_cmp x.id (rows_of ms)) below in
    (not-before x m (omega (arith, le, started-le g m all.0)) (λ same. behind x.id m.id p.0), all-behind x g ms le p.1 all.1)

ready-same : (x f : Flow) → Ready x ≡ Ready f → x ≡ f
ready-same x f is = cc

le-of : (m n : ℕ) → nat_le m n ≡ true → m ≤ n
le-of m n is = grind arith

lt-of : (m n : ℕ) → nat_le m n ≡ false → n < m
lt-of m n is = grind arith

by_le : (x g : Flow) (gs xs : List Flow) (b : Bool) → nat_le x.row.started g.row.started ≡ b → AllByRecursion (NotBefore g) xs → below_all bytes_cmp x.id (rows_of xs) ≡ true
    → (f : Flow) → first_of (if b then x ∷ g ∷ gs else g ∷ placed x gs) ≡ Ready f → AllByRecursion (NotBefore f) (x ∷ xs)
by_le x g gs xs true le all below f is =
    let Of : Flow → Type 0 = λ y. AllByRecursion (NotBefore y) (x ∷ xs) in
    subst Of (ready-same x f is) (not-itself x, all-behind x g xs (le-of x.row.started g.row.started le) below all)
by_le x g gs xs false le all below f is =
    let Of : Flow → Type 0 = λ y. AllByRecursion (NotBefore y) (x ∷ xs) in
    let lt : g.row.started < x.row.started = lt-of x.row.started g.row.started le in
    subst Of (ready-same g f is) (not-before g x (omega (arith, lt)) (λ same. absurd (omega (arith, lt, same))), all)

step : (x : Flow) (xs gs : List Flow) → ((g : Flow) → first_of gs ≡ Ready g → AllByRecursion (NotBefore g) xs) → (gs ≡ [] → xs ≡ []) → below_all bytes_cmp x.id (rows_of xs) ≡ true
    → (f : Flow) → first_of (placed x gs) ≡ Ready f → AllByRecursion (NotBefore f) (x ∷ xs)
step x xs [] ih none below f is =
    let Of : Flow → Type 0 = λ y. AllByRecursion (NotBefore y) (x ∷ xs) in
    let At : List Flow → Type 0 = λ ys. AllByRecursion (NotBefore x) ys in
    subst Of (ready-same x f is) (not-itself x, subst At (sym (none refl)) tt)
step x xs (g ∷ gs) ih none below f is = by_le x g gs xs (nat_le x.row.started g.row.started) refl (ih g refl) below f is

some-placed : {A : Type 0} (x : Flow) (gs : List Flow) → placed x gs ≡ [] → A
some-placed x [] is = absurd (let z : x ∷ [] ≡ [] = is in cc)
some-placed x (g ∷ gs) is = by_test (nat_le x.row.started g.row.started) is where
  by_test : {A : Type 0} (b : Bool) → (if b then x ∷ g ∷ gs else g ∷ placed x gs) ≡ [] → A
  by_test true is = absurd (let z : x ∷ g ∷ gs ≡ [] = is in cc)
  by_test false is = absurd (let z : g ∷ placed x gs ≡ [] = is in cc)

none-started : (xs : List Flow) → by_start xs ≡ [] → xs ≡ []
none-started [] is = refl
none-started (x ∷ xs) is = some-placed x (by_start xs) is

head-least : (ws : List Flow) → is_sorted bytes_cmp (rows_of ws) ≡ true → (f : Flow) → first_of (by_start ws) ≡ Ready f → AllByRecursion (NotBefore f) ws
head-least [] sorted f is = tt
head-least (x ∷ xs) sorted f is =
    let p = parts (below_all bytes_cmp x.id (rows_of xs)) (is_sorted bytes_cmp (rows_of xs)) sorted in
    step x xs (by_start xs) (head-least xs p.1) (none-started xs) p.0 f is

-- ---- those that wait

module _ (test : Flow → Bool) where
  kept-below : (id : Text) (b : Bool) (g : Flow) (gs : List Flow) → is_lt (bytes_cmp id g.id) ≡ true → below_all bytes_cmp id (rows_of gs) ≡ true → below_all bytes_cmp id (rows_of (cond b (g ∷ gs) gs)) ≡ true
  kept-below id true g gs lt below = and-true (is_lt (bytes_cmp id g.id)) _ lt below
  kept-below id false g gs lt below = below

  filter-below : (id : Text) (fs : List Flow) → below_all bytes_cmp id (rows_of fs) ≡ true → below_all bytes_cmp id (rows_of (filter test fs)) ≡ true
  filter-below id [] below = refl
  filter-below id (g ∷ gs) below =
      let p = parts (is_lt (bytes_cmp id g.id)) (below_all bytes_cmp id (rows_of gs)) below in
      kept-below id (test g) g (filter test gs) p.0 (filter-below id gs p.1)

  kept-sorted : (b : Bool) (g : Flow) (gs : List Flow) → below_all bytes_cmp g.id (rows_of gs) ≡ true → is_sorted bytes_cmp (rows_of gs) ≡ true → is_sorted bytes_cmp (rows_of (cond b (g ∷ gs) gs)) ≡ true
  kept-sorted true g gs below sorted = and-true (below_all bytes_cmp g.id (rows_of gs)) _ below sorted
  kept-sorted false g gs below sorted = sorted

  filter-sorted : (fs : List Flow) → is_sorted bytes_cmp (rows_of fs) ≡ true → is_sorted bytes_cmp (rows_of (filter test fs)) ≡ true
  filter-sorted [] sorted = refl
  filter-sorted (g ∷ gs) sorted =
      let p = parts (below_all bytes_cmp g.id (rows_of gs)) (is_sorted bytes_cmp (rows_of gs)) sorted in
      kept-sorted (test g) g (filter test gs) (filter-below g.id gs p.0) (filter-sorted gs p.1)

  module _ (A : Flow → Type 0) where
    of_first : (b : Bool) (g : Flow) (gs : List Flow) → b ≡ true → AllByRecursion A (cond b (g ∷ gs) gs) → A g
    of_first true g gs is all = all.0
    of_first false g gs is all = absurd cc

    of_later : (b : Bool) (g : Flow) (gs : List Flow) → AllByRecursion A (cond b (g ∷ gs) gs) → AllByRecursion A gs
    of_later true g gs all = all.1
    of_later false g gs all = all

    by_tie : (id : Text) (row : FlowRow) (g : Flow) (gs : List Flow) (b : Bool) → is_eq (bytes_cmp id g.id) ≡ b → AllByRecursion A (filter test (g ∷ gs)) → cond b (Some g.row) (find bytes_cmp id (rows_of gs)) ≡ Some row
        → (find bytes_cmp id (rows_of gs) ≡ Some row → A (record { id = id; row = row })) → test (record { id = id; row = row }) ≡ true → A (record { id = id; row = row })
    by_tie id row g gs true tie all is later passes =
        let same_id : id ≡ g.id = slice_cmp-IsAntisymmetric nat_cmp-IsAntisymmetric id g.id (tied (bytes_cmp id g.id) tie) in
        let same_row : g.row ≡ row = (let z : Some g.row ≡ Some row = is in cc) in
        let same : g ≡ record { id = id; row = row } = λ i. record { id = sym same_id i; row = same_row i } in
        let Of : Flow → Type 0 = A in
        subst Of same (of_first (test g) g (filter test gs) (ap test same ∙ passes) all)
    by_tie id row g gs false tie all is later passes = later is

    -- what holds of all that pass holds of the one that is found
    found-passes : (id : Text) (row : FlowRow) (fs : List Flow) → AllByRecursion A (filter test fs) → find bytes_cmp id (rows_of fs) ≡ Some row → test (record { id = id; row = row }) ≡ true → A (record { id = id; row = row })
    found-passes id row [] all is passes = absurd (let z : None ≡ Some row = is in cc)
    found-passes id row (g ∷ gs) all is passes =
        by_tie id row g gs (is_eq (bytes_cmp id g.id)) refl all is (λ found. found-passes id row gs (of_later (test g) g (filter test gs) all) found passes) passes

rows-found : (rows : Rows) (fs : List Flow) → AllByRecursion (λ (p : Text × FlowRow). find bytes_cmp p.0 rows ≡ Some p.1) (rows_of fs) → AllByRecursion (λ (f : Flow). find bytes_cmp f.id rows ≡ Some f.row) fs
rows-found rows [] all = tt
rows-found rows (f ∷ fs) all = (all.0, rows-found rows fs all.1)

counts-same : (test : FlowRow → Bool) (fs : List Flow) → length (filter (λ (p : Text × FlowRow). test p.1) (rows_of fs)) ≡ length (filter (λ (f : Flow). test f.row) fs)
counts-same test [] = refl
counts-same test (f ∷ fs) = by_test (test f.row) (counts-same test fs) where
  by_test : (b : Bool) → length (filter (λ (p : Text × FlowRow). test p.1) (rows_of fs)) ≡ length (filter (λ (f : Flow). test f.row) fs)
      → length (cond b ((f.id, f.row) ∷ filter (λ (p : Text × FlowRow). test p.1) (rows_of fs)) (filter (λ (p : Text × FlowRow). test p.1) (rows_of fs))) ≡ length (cond b (f ∷ filter (λ (f : Flow). test f.row) fs) (filter (λ (f : Flow). test f.row) fs))
  by_test true same = ap (λ (n : ℕ). suc n) same
  by_test false same = same

-- ---- the rule

not-le : (m n : ℕ) → n < m → nat_le m n ≡ false
not-le m n lt = grind arith

yes-le : (m n : ℕ) → m ≤ n → nat_le m n ≡ true
yes-le m n le = grind arith

both-equal : (o : Ordering) → o ≢ Less → ordering_reverse o ≢ Less → o ≡ Equal
both-equal Less p q = absurd (p refl)
both-equal Equal p q = refl
both-equal Greater p q = absurd (q refl)

id-of : (c o : Ordering) → ordering_then c o ≡ Equal → o ≡ Equal
id-of Less o is = absurd (let z : Less ≡ Equal = is in cc)
id-of Equal o is = is
id-of Greater o is = absurd (let z : Greater ≡ Equal = is in cc)

place-reverse : (f g : Flow) → place_cmp (g.row.started, g.id) (f.row.started, f.id) ≡ ordering_reverse (place_cmp (f.row.started, f.id) (g.row.started, g.id))
place-reverse f g = then-reverse (nat_cmp g.row.started f.row.started) (nat_cmp f.row.started g.row.started) (bytes_cmp g.id f.id) (bytes_cmp f.id g.id) (nat_cmp_total.antisymm g.row.started f.row.started) (nat_list_cmp_total.antisymm g.id f.id) where
  by_first : (c d e : Ordering) → d ≡ ordering_reverse e → ordering_then (ordering_reverse c) d ≡ ordering_reverse (ordering_then c e)
  by_first Less d e is = refl
  by_first Equal d e is = is
  by_first Greater d e is = refl

  then-reverse : (b c d e : Ordering) → b ≡ ordering_reverse c → d ≡ ordering_reverse e → ordering_then b d ≡ ordering_reverse (ordering_then c e)
  then-reverse b c d e first second = ap (λ (x : Ordering). ordering_then x d) first ∙ by_first c d e second

-- neither is before the other
same-id : (f g : Flow) → NotBefore f g → NotBefore g f → f.id ≡ g.id
same-id f g one two =
    let o : Ordering = place_cmp (f.row.started, f.id) (g.row.started, g.id) in
    let Of : Ordering → Type 0 = λ x. x ≢ Less in
    let tie : o ≡ Equal = both-equal o two (subst Of (place-reverse f g) one) in
    slice_cmp-IsAntisymmetric nat_cmp-IsAntisymmetric f.id g.id (id-of (nat_cmp f.row.started g.row.started) (bytes_cmp f.id g.id) tie)

module _ (h : List Entry) (k : ℕ) (q : Queue) where
  abbrev fs : List Flow
  fs = flows_at h k

  abbrev waits : Flow → Bool
  waits f = is_waiting q.name f.row

  sorted : is_sorted bytes_cmp (rows_of fs) ≡ true
  sorted = sorted-flows (map_at h k) (map_at-sorted h k)

  abbrev IsThere : Flow → Type 0
  IsThere f = find bytes_cmp f.id (rows_of fs) ≡ Some f.row

  there : AllByRecursion IsThere fs
  there = rows-found (rows_of fs) fs (all-found bytes_cmp nat_list_cmp_total (rows_of fs) sorted)

  count : running_count q.name (rows_of fs) ≡ length (running q.name fs)
  count = counts-same (is_running q.name) fs

  abbrev next_by : Bool → Next
  next_by b = if b then Limited (length (running q.name fs)) else first_of (waiting q.name fs)

  -- the first of those that wait is the rule's
  ready-by : (id : Text) → IsNext (rows_of fs) q.name id → (ws : List Flow) → waiting q.name fs ≡ ws → (f : Flow) × (first_of ws ≡ Ready f) × (f.id ≡ id)
  ready-by id next [] is =
      let none : filter waits fs ≡ [] = none-started (filter waits fs) is in
      let Of : List Flow → Type 0 = λ ws. AllByRecursion (λ (f : Flow). ⊥) ws in
      absurd (found-passes waits (λ (f : Flow). ⊥) id next.row fs (subst Of (sym none) tt) next.stands next.waits)
  ready-by id next (f ∷ ws) is =
      let first : first_of (waiting q.name fs) ≡ Ready f = ap first_of is in
      let least : AllByRecursion (NotBefore f) (filter waits fs) = head-least (filter waits fs) (filter-sorted waits fs sorted) f first in
      let one : NotBefore f (record { id = id; row = next.row }) = found-passes waits (NotBefore f) id next.row fs least next.stands next.waits in
      let Waits : Flow → Type 0 = λ g. IsThere g × (waits g ≡ true) in
      let w = first-is Waits (waiting q.name fs) f (all-by_start Waits (filter waits fs) (all-kept IsThere waits fs there)) first in
      (f, refl, same-id f (record { id = id; row = next.row }) one (next.first f.id f.row w.0 w.1))

  no-wait : RuleNone (rows_of fs) q.name → (gs : List Flow) → AllByRecursion IsThere gs → filter waits gs ≡ []
  no-wait none [] all = refl
  no-wait none (g ∷ gs) all = ap (λ (b : Bool). cond b (g ∷ filter waits gs) (filter waits gs)) (none g.id g.row all.0) ∙ no-wait none gs all.1

  tells-next : (n : rule.Next) → Tells (rows_of fs) q.name q.bound n → IsSame (next_of q fs) n
  tells-next (tells.Ready id) t =
      let r = ready-by id.now t.1 (waiting q.name fs) refl in
      let Of : Next → Type 0 = λ x. IsSame x (tells.Ready id) in
      let At : Bool → Type 0 = λ b. IsSame (next_by b) (tells.Ready id) in
      subst At (sym (not-le q.bound (length (running q.name fs)) (omega (arith, t.0, count)))) (subst Of (sym r.1) r.2)
  tells-next tells.Empty t =
      let Of : List Flow → Type 0 = λ ws. IsSame (first_of (by_start ws)) tells.Empty in
      let At : Bool → Type 0 = λ b. IsSame (next_by b) tells.Empty in
      subst At (sym (not-le q.bound (length (running q.name fs)) (omega (arith, t.0, count)))) (subst Of (sym (no-wait t.1 fs there)) tt)
  tells-next (tells.Limit m) t =
      let At : Bool → Type 0 = λ b. IsSame (next_by b) (tells.Limit m) in
      subst At (sym (yes-le q.bound (length (running q.name fs)) (omega (arith, t.0, count)))) (omega (arith, t.1, count))

pub queues-tell : QueuesTell
queues-tell h k q n t = tells-next h k q n t
