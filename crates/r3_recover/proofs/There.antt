-- What a round goes over is there: the queues are declared, and a workflow stays.
use Rattle.std.proofs.Common.{◌≡◌, ℕ, ◌+◌, ◌≤◌, Bool, true, false, ◌||◌, List, [], ◌∷◌, ◌++◌, map, length, Option, Some, refl, sym, ap, ◌∙◌, subst, arith, append-nil, length-append}
use Rattle.std.proofs.lemmas.List.{append_assoc}
use Rattle.std.specs.Prelude.{IsTrue, IsSome, cond, filter, is_some, nat_le, if◌then◌else◌}
use Rattle.std.specs.FinMap.Entries.{find, put, find-put}
use Rattle.std.specs.List.{AllByRecursion, list_any}
use Rattle.std.specs.Cmp.{tied_itself}
use Rattle.std.specs.Ordering.{eq_by_cmp, is_eq}
use Rattle.std.specs.declared.cmp.Ordering.{Ordering}
use Rattle.std.specs.Str.{bytes_eq}
use Rattle.std.proofs.lemmas.Cmp.{nat_list_cmp_total}
use Rattle.std.proofs.lemmas.Slice.Eq.{bytes_eq-Decides}
use Rattle.r3_rows.specs.declared.rows.FlowRow.{FlowRow}
use Rattle.r3_rows.specs.Keys.{bytes_cmp}
use Rattle.r3_entry.specs.declared.entry.Entry.{Entry}
use Rattle.r3_entry.specs.Formed.{Follows, FollowEachOther, IsFormed}
use Rattle.sys_queue.specs.Rows.{Rows, is_pending}
use Rattle.sys_pending.specs.Running.{by_start, placed, running, running_ids}
use Rattle.r3_model.specs.Language.{Text, Queue}
use Rattle.r3_model.specs.Machine.{State}
use Rattle.r3_model.specs.Rows.{flow_at, flows_at}
use Rattle.r3_model.specs.Run.{pending_ids}
use Rattle.r3_laws.specs.OfPending.{PendingTells, RowsFollow, RowsTell, flows_written, put_all}
use Rattle.r3_laws.specs.OfQueues.{rows_of}

-- ---- a workflow stays

has-put : (id i : Text) (row : FlowRow) (rows : Rows) → IsSome (find bytes_cmp id rows) → IsSome (find bytes_cmp id (put bytes_cmp i row rows))
has-put id i row rows has =
    subst (λ (o : Option FlowRow). IsSome o) (sym (find-put bytes_cmp nat_list_cmp_total id i row rows))
    (elim (eq_by_cmp bytes_cmp id i) as (λ b. IsSome (cond b (Some row) (find bytes_cmp id rows))) [ true ↦ refl | false ↦ has ])

has-all : (id : Text) (fs rows : Rows) → IsSome (find bytes_cmp id rows) → IsSome (find bytes_cmp id (put_all fs rows))
has-all id [] rows has = has
has-all id (f ∷ fs) rows has = has-all id fs (put bytes_cmp f.0 f.1 rows) (has-put id f.0 f.1 rows has)

follows-last : (h es : List Entry) (e : Entry) → FollowEachOther h (es ++ e ∷ []) → Follows (h ++ es) e
follows-last h [] e all = subst (λ (g : List Entry). Follows g e) (sym (append-nil h)) all.0
follows-last h (f ∷ fs) e all = subst (λ (g : List Entry). Follows g e) (append_assoc h (f ∷ []) fs) (follows-last (h ++ f ∷ []) fs e all.1)

abbrev pub IsKnown : List Entry → Text → Type 0
IsKnown h id = IsSome (flow_at h (length h) id)

stays-one : RowsFollow → RowsTell → (h : List Entry) (e : Entry) (id : Text) → Follows h e → IsKnown h id → IsKnown (h ++ e ∷ []) id
stays-one follow tell h e id follows known =
    let has : IsSome (find bytes_cmp id (rows_of (flows_at h (length h)))) = subst (λ (o : Option FlowRow). IsSome o) (sym (tell h (length h) id)) known in
    let len : length h + 1 ≡ length (h ++ e ∷ []) = omega (arith, length-append h (e ∷ [])) in
    let after : IsSome (flow_at (h ++ e ∷ []) (length h + 1) id) =
    subst (λ (o : Option FlowRow). IsSome o)
    (ap (λ (rs : Rows). find bytes_cmp id rs) (sym (follow h e follows)) ∙ tell (h ++ e ∷ []) (length h + 1) id)
    (has-all id (flows_written e) (rows_of (flows_at h (length h))) has) in
    subst (λ (k : ℕ). IsSome (flow_at (h ++ e ∷ []) k id)) len after

pub stays : RowsFollow → RowsTell → (h xs : List Entry) (id : Text) → length xs ≤ 1 → IsFormed (h ++ xs) → IsKnown h id → IsKnown (h ++ xs) id
stays follow tell h [] id few formed known = subst (λ (g : List Entry). IsKnown g id) (sym (append-nil h)) known
stays follow tell h (e ∷ []) id few formed known = stays-one follow tell h e id (follows-last [] h e formed.entries) known
stays follow tell h (e ∷ f ∷ es) id few formed known = absurd (omega (arith, few))

pub all-stay : RowsFollow → RowsTell → (h xs : List Entry) (ids : List Text) → length xs ≤ 1 → IsFormed (h ++ xs)
    → AllByRecursion (IsKnown h) ids → AllByRecursion (IsKnown (h ++ xs)) ids
all-stay follow tell h xs [] few formed all = all
all-stay follow tell h xs (id ∷ ids) few formed all = (stays follow tell h xs id few formed all.0, all-stay follow tell h xs ids few formed all.1)

-- ---- the queues are declared

abbrev pub IsDeclared : List Queue → Text → Type 0
IsDeclared qs name = IsTrue (list_any (λ (q : Queue). bytes_eq q.name name) qs)

declared-more : (q : Queue) (qs : List Queue) (names : List Text) → AllByRecursion (IsDeclared qs) names → AllByRecursion (IsDeclared (q ∷ qs)) names
declared-more q qs [] all = all
declared-more q qs (name ∷ names) all =
    (elim (bytes_eq q.name name) as (λ b. IsTrue (b || list_any (λ (x : Queue). bytes_eq x.name name) qs)) [ true ↦ refl | false ↦ all.0 ], declared-more q qs names all.1)

pub all-declared : (qs : List Queue) → AllByRecursion (IsDeclared qs) (map (λ (q : Queue). q.name) qs)
all-declared [] = tt
all-declared (q ∷ qs) = (
  ap (λ (b : Bool). b || list_any (λ (x : Queue). bytes_eq x.name q.name) qs) ((bytes_eq-Decides q.name q.name).1 refl),
  declared-more q qs (map (λ (x : Queue). x.name) qs) (all-declared qs),
)

-- ---- a workflow that runs is there

all-then : {X : Type 0} (P Q : X → Type 0) → ((x : X) → P x → Q x) → (xs : List X) → AllByRecursion P xs → AllByRecursion Q xs
all-then P Q each [] all = all
all-then P Q each (x ∷ xs) all = (each x all.0, all-then P Q each xs all.1)

all-of-map : {X Y : Type 0} (f : X → Y) (Q : Y → Type 0) (xs : List X) → AllByRecursion (λ x. Q (f x)) xs → AllByRecursion Q (map f xs)
all-of-map f Q [] all = all
all-of-map f Q (x ∷ xs) all = (all.0, all-of-map f Q xs all.1)

kept-if : {X : Type 0} (P : X → Type 0) (x : X) (xs : List X) (b : Bool) → P x → AllByRecursion P xs → AllByRecursion P (if b then x ∷ xs else xs)
kept-if P x xs true here all = (here, all)
kept-if P x xs false here all = all

all-filter : {X : Type 0} (P : X → Type 0) (p : X → Bool) (xs : List X) → AllByRecursion P xs → AllByRecursion P (filter p xs)
all-filter P p [] all = all
all-filter P p (x ∷ xs) all = kept-if P x (filter p xs) (p x) all.0 (all-filter P p xs all.1)

module _ (P : Text × FlowRow → Type 0) where
  all-placed : (f : Text × FlowRow) (gs : Rows) → P f → AllByRecursion P gs → AllByRecursion P (placed f gs)
  all-placed f [] here all = (here, all)
  all-placed f (g ∷ gs) here all =
      elim (nat_le f.1.started g.1.started) as (λ b. AllByRecursion P (if b then f ∷ g ∷ gs else g ∷ placed f gs)) [
        | true ↦ (here, all)
        | false ↦ (all.0, all-placed f gs here all.1)
      ]

  all-by_start : (gs : Rows) → AllByRecursion P gs → AllByRecursion P (by_start gs)
  all-by_start [] all = all
  all-by_start (g ∷ gs) all = all-placed g (by_start gs) all.0 (all-by_start gs all.1)

abbrev IsFound : Rows → Text × FlowRow → Type 0
IsFound rows f = IsSome (find bytes_cmp f.0 rows)

found-later : (g : Text × FlowRow) (rows : Rows) (f : Text × FlowRow) → IsFound rows f → IsFound (g ∷ rows) f
found-later g rows f has =
    elim (eq_by_cmp bytes_cmp f.0 g.0) as (λ b. IsSome (cond b (Some g.1) (find bytes_cmp f.0 rows))) [ true ↦ refl | false ↦ has ]

all-found : (rows : Rows) → AllByRecursion (IsFound rows) rows
all-found [] = tt
all-found (g ∷ rows) = (
  ap (λ (r : Ordering). is_some (cond (is_eq r) (Some g.1) (find bytes_cmp g.0 rows))) (tied_itself nat_list_cmp_total g.0),
  all-then (IsFound rows) (IsFound (g ∷ rows)) (found-later g rows) rows (all-found rows),
)

all-running : (rows : Rows) → AllByRecursion (λ (id : Text). IsSome (find bytes_cmp id rows)) (running_ids rows)
all-running rows =
    all-of-map (λ (f : Text × FlowRow). f.0) (λ (id : Text). IsSome (find bytes_cmp id rows)) (running rows)
    (all-by_start (IsFound rows) (filter (λ (f : Text × FlowRow). is_pending f.1.status) rows)
    (all-filter (IsFound rows) (λ (f : Text × FlowRow). is_pending f.1.status) rows (all-found rows)))

pub all-known : RowsTell → PendingTells → (st : State) → AllByRecursion (IsKnown st.history) (pending_ids st)
all-known tell pending st =
    let h : List Entry = st.history in
    let rows : Rows = rows_of (flows_at h (length h)) in
    subst (λ (ids : List Text). AllByRecursion (IsKnown h) ids) (pending h (length h))
    (all-then (λ (id : Text). IsSome (find bytes_cmp id rows)) (IsKnown h) (λ id found. subst (λ (o : Option FlowRow). IsSome o) (tell h (length h) id) found) (running_ids rows) (all-running rows))
