-- Versions that are discarded.
use Rattle.std.proofs.Common.{◌≡◌, ◌⊎◌, ℕ, ◌+◌, ◌<◌, ◌≤◌, true, false, cond, List, [], ◌∷◌, length, refl, sym, ap, ◌∙◌, subst, arith, inl, inr, ⊎_elim}
use Rattle.std.proofs.lemmas.Bool.Decides.{nat_tests}
use Rattle.std.specs.Prelude.{nat_le}
use Rattle.std.specs.BTreeMap.{insert_entry}
use Rattle.std.specs.declared.cmp.Ordering.TheVariants.{Less, Equal, Greater}
use Rattle.std.specs.FinMap.Entries.{put, by_order}
use Rattle.r3_gate.specs.declared.gate.Gate.{Gate}
use Rattle.r3_entry.specs.declared.entry.Entry.{Entry}
use Rattle.r3_store.specs.Holds as store
use Rattle.r3_chain.specs.Versions.{Version, Versions, trimmed, trimmed_all}
use Rattle.r3_chain.proofs.PutLemmas.{insert_put}
use Rattle.r3_rows.specs.Keys.{bytes_cmp}
use Rattle.r3_model.specs.Language.{Text}
use Rattle.r3_model.specs.Machine.{Begun}
use Rattle.r3_exec.specs.Discards.{Discards, HasDiscarded, DiscardsWhenDue}
use Rattle.r3_exec.specs.declared.exec.Exec.{Exec}

-- ---- trimming twice

trimmed_twice : {V : Type 0} (o : ℕ) (vs : List (Version V)) → trimmed o (trimmed o vs) ≡ trimmed o vs
trimmed_twice o [] = refl
trimmed_twice o (v ∷ vs) =
    elim (nat_le v.0 o) as (λ b. nat_le v.0 o ≡ b → trimmed o (cond b (v ∷ []) (v ∷ trimmed o vs)) ≡ cond b (v ∷ []) (v ∷ trimmed o vs)) [
      | true ↦ λ is. ap (λ b. cond b (v ∷ []) (v ∷ [])) is
      | false ↦ λ is. ap (λ b. cond b (v ∷ []) (v ∷ trimmed o (trimmed o vs))) is ∙ ap (λ ws. v ∷ ws) (trimmed_twice o vs)
    ] refl

all_trimmed_twice : {K V : Type 0} (o : ℕ) (es : Versions K V) → trimmed_all o (trimmed_all o es) ≡ trimmed_all o es
all_trimmed_twice o [] = refl
all_trimmed_twice {K} {V} o (e ∷ es) =
    ap (λ (vs : List (Version V)). (e.0, vs) ∷ trimmed_all o (trimmed_all o es)) (trimmed_twice o e.1) ∙ ap (λ (fs : Versions K V). (e.0, trimmed o e.1) ∷ fs) (all_trimmed_twice o es)

-- then nothing is left to be discarded
pub discarded : (old new : Exec) → Discards old new → HasDiscarded new
discarded old new d = record {
  noted = d.noted;
  oldest = d.oldest;
  trims = d.trims ∙ sym (all_trimmed_twice new.store.oldest old.store.chains.versions) ∙ ap (λ es. trimmed_all new.store.oldest es) (sym d.trims);
}

-- ---- when it is due

pub in_time : (a b : ℕ) → (a ≤ b) ⊎ (b < a)
in_time a b = elim (nat_le a b) as (λ t. nat_le a b ≡ t → (a ≤ b) ⊎ (b < a)) [
  | true ↦ λ is. inl (grind (arith, nat_tests))
  | false ↦ λ is. inr (grind (arith, nat_tests))
] refl

-- a snapshot is closed, and what is due is done
pub closes_now : (old mid new : Exec) (h : List Entry) → mid.vacuumed ≡ old.vacuumed → store.Stands mid.store h → new.store.gate ≡ mid.store.gate
    → (mid.vacuumed + 1024 ≤ length h → Discards mid new) → (length h < mid.vacuumed + 1024 → new ≡ mid) → DiscardsWhenDue old new
closes_now old mid new h from stands gate due not_due =
    let count : new.store.gate.count ≡ length h = ap (λ (g : Gate). g.count) gate ∙ stands.count in
    ⊎_elim
    (λ (long : mid.vacuumed + 1024 ≤ length h).
    let d = due long in
    let noted : new.vacuumed ≡ new.store.gate.count = d.noted in
    record { noted = inr (omega (arith, long, count, from), discarded mid new d); few_since = λ fewer. omega (arith, noted) })
    (λ (short : length h < mid.vacuumed + 1024).
    let same : new.vacuumed ≡ mid.vacuumed = ap (λ (e : Exec). e.vacuumed) (not_due short) in
    record { noted = inl (same ∙ from); few_since = λ fewer. omega (arith, same, short, count) })
    (in_time (mid.vacuumed + 1024) (length h))

-- no snapshot is closed
pub none_closes : (old new : Exec) → length old.begun.entries ≤ length new.begun.entries → new.vacuumed ≡ old.vacuumed → DiscardsWhenDue old new
none_closes old new more same = record { noted = inl same; few_since = λ fewer. absurd (omega (arith, more, fewer)) }

pub entries_stay : (old new : Exec) → new.begun.entries ≡ old.begun.entries → new.vacuumed ≡ old.vacuumed → DiscardsWhenDue old new
entries_stay old new same =
    let lengths : length new.begun.entries ≡ length old.begun.entries = ap length same in
    none_closes old new (omega (arith, lengths))

pub same_snapshots : (old new : Exec) → (new.begun ≡ old.begun) × (new.vacuumed ≡ old.vacuumed) → DiscardsWhenDue old new
same_snapshots old new same = entries_stay old new (ap (λ b. b.entries) same.0) same.1

pub nothing_done : (exec : Exec) → DiscardsWhenDue exec exec
nothing_done exec = same_snapshots exec exec (refl, refl)

-- it closes one behind a part that closes none
pub closes_behind : (old mid new : Exec) → (mid.begun ≡ old.begun) × (mid.vacuumed ≡ old.vacuumed) → DiscardsWhenDue mid new → DiscardsWhenDue old new
closes_behind old mid new same d = record {
  noted = subst (λ n. (new.vacuumed ≡ n) ⊎ ((n + 1024 ≤ new.store.gate.count) × HasDiscarded new)) same.1 d.noted;
  few_since = λ fewer. d.few_since (subst (λ b. length new.begun.entries < length b.entries) (sym same.0) fewer);
}

put_grows : (id : Text) (snap : ℕ) (es : Begun) → length es ≤ length (put bytes_cmp id snap es)
put_grows id snap [] = omega arith
put_grows id snap (e ∷ es) =
    let rest : length es ≤ length (put bytes_cmp id snap es) = put_grows id snap es in
    elim (bytes_cmp id e.0) as (λ r. length (e ∷ es) ≤ length (by_order r ((id, snap) ∷ e ∷ es) ((e.0, snap) ∷ es) (e ∷ put bytes_cmp id snap es))) [
      | Less ↦ omega arith
      | Equal ↦ omega arith
      | Greater ↦ omega (arith, rest)
    ]

pub insert_grows : (id : Text) (snap : ℕ) (es new : Begun) → new ≡ insert_entry bytes_cmp es id snap → length es ≤ length new
insert_grows id snap es new is =
    let same : length new ≡ length (put bytes_cmp id snap es) = ap length (is ∙ insert_put bytes_cmp id snap es) in
    omega (arith, same, put_grows id snap es)
