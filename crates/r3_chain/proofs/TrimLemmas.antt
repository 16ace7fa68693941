-- A chain that is cut behind one of its versions.
use Rattle.std.proofs.Common.{◌≡◌, ◌≢◌, ℕ, ◌+◌, ◌<◌, ◌≤◌, zero, suc, true, false, cond, List, [], ◌∷◌, length, Option, Some, None, refl, sym, ap, ◌∙◌, subst, arith, inl, inr}
use Rattle.std.proofs.lemmas.Bool.Decides.{eqb_tells, nat_tests}
use Rattle.std.specs.Prelude.{nat_eq, nat_le, is_some}
use Rattle.std.proofs.Common.{◌++◌, ◌-◌, get_or, length-append}
use Rattle.std.proofs.Math.Seq.{get_or-append_seam}
use Rattle.r3_pool.specs.Slots.{Slots, Fills, Empties, value_at, live_count, next_slot, after_put, after_take}
use Rattle.r3_chain.specs.Versions.{Version, trimmed}
use Rattle.r3_chain.specs.Links.{Cells, Placed, onto, trace, ends_with, Ends, versions_in, visits}
use Rattle.r3_chain.specs.Cuts.{cut_at, behind, slot_before, cut_slot, IsLine, Frees, EndsAt, Trims}
use Rattle.r3_chain.specs.declared.node.Node.{Node}
use Rattle.r3_chain.proofs.LinkLemmas.{trace_longer, trace_step, trace_stays, nothing, seen_same, seen_other, one}

module _ {V : Type 0} where
  -- so far: the slots behind are still whole
  pub record Freeing (n : ℕ) (from next : Option ℕ) (old cur : Slots (Node V)) : Type 0 where
    pub line : IsLine n (value_at cur) next
    pub left : (t : ℕ) → visits t (trace n (value_at cur) next) ≤ visits t (trace n (value_at old) from)
    pub gone : (t : ℕ) → 0 < visits t (trace n (value_at old) from) → visits t (trace n (value_at cur) next) ≡ 0 → value_at cur t ≡ None
    pub others : (t : ℕ) → visits t (trace n (value_at old) from) ≡ 0 → value_at cur t ≡ value_at old t
    pub live : live_count cur + length (trace n (value_at old) from) ≡ live_count old + length (trace n (value_at cur) next)
    pub cap : cur.cap ≡ old.cap
    pub spare : old.spare ≤ cur.spare

  pub freeing_starts : (n : ℕ) (from : Option ℕ) (old : Slots (Node V)) → IsLine n (value_at old) from → Freeing n from from old old
  freeing_starts n from old line = record {
    line = line;
    left = λ t. omega arith;
    gone = λ t on off. absurd (omega arith);
    others = λ t off. refl;
    live = refl;
    cap = refl;
    spare = omega arith;
  }

  pub freeing_ends : (n : ℕ) (from : Option ℕ) (old cur : Slots (Node V)) → Freeing n from None old cur → Frees (trace n (value_at old) from) old cur
  freeing_ends n from old cur f =
      let none : trace n (value_at cur) None ≡ [] = (nothing n (value_at cur)).0 in
      let short : length (trace n (value_at cur) None) ≡ 0 = ap length none in
      let live : live_count cur + length (trace n (value_at old) from) ≡ live_count old + length (trace n (value_at cur) None) = f.live in
      record {
        gone = λ t on. f.gone t on (ap (visits t) none);
        others = f.others;
        live = omega arith;
        cap = f.cap;
        spare = f.spare;
      }

  pub freeing_goes_on : (n : ℕ) (from : Option ℕ) (old cur new : Slots (Node V)) (s : ℕ) (node : Node V) → Freeing n from (Some s) old cur → value_at cur s ≡ Some node
      → Empties cur new s → new.cap ≡ cur.cap → new.spare ≡ cur.spare + 1 → Freeing n from node.older old new
  freeing_goes_on n from old cur new s node f is e cap spare =
      let step : (trace n (value_at cur) (Some s) ≡ (s, (node.index, node.value)) ∷ trace n (value_at cur) node.older) × Ends n (value_at cur) node.older =
      trace_step n (value_at cur) s node is f.line.ends in
      let rest : List (Placed V) = trace n (value_at cur) node.older in
      let seen : (t : ℕ) → visits t (trace n (value_at cur) (Some s)) ≡ one (nat_eq s t) + visits t (trace n (value_at cur) node.older) = λ t. ap (visits t) step.0 in
      let once_here : one (nat_eq s s) ≡ 1 = seen_same s in
      let seen_s : visits s (trace n (value_at cur) (Some s)) ≡ one (nat_eq s s) + visits s (trace n (value_at cur) node.older) = seen s in
      let most_s : visits s (trace n (value_at cur) (Some s)) ≤ 1 = f.line.once s in
      let left_s : visits s (trace n (value_at cur) (Some s)) ≤ visits s (trace n (value_at old) from) = f.left s in
      let not_again : visits s (trace n (value_at cur) node.older) ≡ 0 = omega arith in
      let stays : (trace n (value_at new) node.older ≡ trace n (value_at cur) node.older) × Ends n (value_at new) node.older =
      trace_stays n (value_at cur) (value_at new) node.older (λ t on. e.others t (λ q. apart t on q not_again)) step.1 in
      let same : (t : ℕ) → visits t (trace n (value_at new) node.older) ≡ visits t (trace n (value_at cur) node.older) = λ t. ap (visits t) stays.0 in
      let long : length (trace n (value_at cur) (Some s)) ≡ suc (length (trace n (value_at cur) node.older)) = ap length step.0 in
      let kept : length (trace n (value_at new) node.older) ≡ length (trace n (value_at cur) node.older) = ap length stays.0 in
      let live : live_count cur + length (trace n (value_at old) from) ≡ live_count old + length (trace n (value_at cur) (Some s)) = f.live in
      let fewer : live_count new + 1 ≡ live_count cur = e.live in
      let more : old.spare ≤ cur.spare = f.spare in
      record {
        line = record {
          ends = stays.1;
          once = λ t. let a : visits t (trace n (value_at cur) (Some s)) ≤ 1 = f.line.once t in let b = seen t in let d = same t in omega (arith, a, seen t, same t);
        };
        left = λ t. omega (arith, f.left t, seen t, same t);
        gone = λ t on off. elim (eqb_tells s t) [
          | inl q ↦ subst (λ u. value_at new u ≡ None) q.1 e.free
          | inr q ↦
              let here : one (nat_eq s t) ≡ 0 = seen_other s t q.1 in
              e.others t (λ w. q.1 (sym w)) ∙ f.gone t on (omega (arith, here, off, seen t, same t))
        ];
        others = λ t off. e.others t (λ w. never t off w left_s seen_s once_here) ∙ f.others t off;
        live = omega arith;
        cap = cap ∙ f.cap;
        spare = omega arith;
      }
    where
      apart : (t : ℕ) → 0 < visits t (trace n (value_at cur) node.older) → t ≡ s → visits s (trace n (value_at cur) node.older) ≡ 0 → ⊥
      apart t on q none =
          let there : 0 < visits s (trace n (value_at cur) node.older) = subst (λ u. 0 < visits u (trace n (value_at cur) node.older)) q on in
          omega arith

      never : (t : ℕ) → visits t (trace n (value_at old) from) ≡ 0 → t ≡ s → visits s (trace n (value_at cur) (Some s)) ≤ visits s (trace n (value_at old) from)
          → visits s (trace n (value_at cur) (Some s)) ≡ one (nat_eq s s) + visits s (trace n (value_at cur) node.older) → one (nat_eq s s) ≡ 1 → ⊥
      never t off q le seen once =
          let none : visits s (trace n (value_at old) from) ≡ 0 = subst (λ u. visits u (trace n (value_at old) from) ≡ 0) q off in
          omega arith

  -- the slot of the last version up to the index
  abbrev pub first_slot : ℕ → List (Placed V) → Option ℕ
  first_slot oldest [] = None
  first_slot oldest (p ∷ ps) = cond (nat_le p.1.0 oldest) (Some p.0) (first_slot oldest ps)

  pub slot_later : (oldest : ℕ) (p : Placed V) (ps : List (Placed V)) → oldest < p.1.0 → cut_slot oldest (p ∷ ps) ≡ cut_slot oldest ps
  slot_later oldest p ps lt =
      let later : nat_le p.1.0 oldest ≡ false = grind (arith, nat_tests) in
      ap (λ b. cond b (slot_before p.0 ps) (cut_slot oldest ps)) later

  pub slot_here : (oldest : ℕ) (p : Placed V) (ps : List (Placed V)) → p.1.0 ≤ oldest → cut_slot oldest (p ∷ ps) ≡ slot_before p.0 ps
  slot_here oldest p ps le =
      let first : nat_le p.1.0 oldest ≡ true = grind (arith, nat_tests) in
      ap (λ b. cond b (slot_before p.0 ps) (cut_slot oldest ps)) first

  pub before_some : (n s : ℕ) (a : Cells V) (o : Option ℕ) → is_some o ≡ true → Ends n a o → slot_before s (trace n a o) ≡ Some s
  before_some n s a None is ends = absurd cc
  before_some zero s a (Some t) is ends = absurd cc
  before_some (suc n) s a (Some t) is ends =
      elim (a t) as (λ m. ends_with (Some t) m (Ends n a) → slot_before s (onto (Some t) m (trace n a)) ≡ Some s) [ None ↦ λ e. absurd e | Some node ↦ λ e. refl ] ends

  pub before_none : (n s : ℕ) (a : Cells V) (o : Option ℕ) → is_some o ≡ false → slot_before s (trace n a o) ≡ None
  before_none n s a None is = ap (slot_before s) (nothing n a).0
  before_none n s a (Some t) is = absurd cc

  pub first_of_cut : (oldest s : ℕ) (ps : List (Placed V)) → cut_slot oldest ps ≡ Some s → first_slot oldest ps ≡ Some s
  first_of_cut oldest s [] is = absurd cc
  first_of_cut oldest s (p ∷ ps) is =
      elim (nat_le p.1.0 oldest) as (λ b. cond b (slot_before p.0 ps) (cut_slot oldest ps) ≡ Some s → cond b (Some p.0) (first_slot oldest ps) ≡ Some s) [
        | true ↦ before p.0 ps
        | false ↦ λ e. first_of_cut oldest s ps e
      ] is
    where
      before : (t : ℕ) (qs : List (Placed V)) → slot_before t qs ≡ Some s → Some t ≡ Some s
      before t [] e = absurd cc
      before t (q ∷ qs) e = e

  first_visited : (oldest s : ℕ) (ps : List (Placed V)) → first_slot oldest ps ≡ Some s → 0 < visits s ps
  first_visited oldest s [] is = absurd cc
  first_visited oldest s (p ∷ ps) is =
      elim (nat_le p.1.0 oldest) as (λ b. cond b (Some p.0) (first_slot oldest ps) ≡ Some s → 0 < visits s (p ∷ ps)) [
        | true ↦ λ e. let same : p.0 ≡ s = cc in let here : one (nat_eq s s) ≡ 1 = seen_same s in
            let there : one (nat_eq p.0 s) ≡ 1 = subst (λ u. one (nat_eq u s) ≡ 1) (sym same) here in omega arith
        | false ↦ λ e. let rest : 0 < visits s ps = first_visited oldest s ps e in omega arith
      ] is

  behind_fewer : (oldest t : ℕ) (ps : List (Placed V)) → visits t (behind oldest ps) ≤ visits t ps
  behind_fewer oldest t [] = omega arith
  behind_fewer oldest t (p ∷ ps) =
      let rest : visits t (behind oldest ps) ≤ visits t ps = behind_fewer oldest t ps in
      elim (nat_le p.1.0 oldest) as (λ b. visits t (cond b ps (behind oldest ps)) ≤ visits t (p ∷ ps)) [ true ↦ omega arith | false ↦ omega arith ]

  cut_length : (oldest : ℕ) (ps : List (Placed V)) → length (cut_at oldest ps) + length (behind oldest ps) ≡ length ps
  cut_length oldest [] = refl
  cut_length oldest (p ∷ ps) =
      let rest : length (cut_at oldest ps) + length (behind oldest ps) ≡ length ps = cut_length oldest ps in
      elim (nat_le p.1.0 oldest) as (λ b. length (cond b (p ∷ []) (p ∷ cut_at oldest ps)) + length (cond b ps (behind oldest ps)) ≡ length (p ∷ ps)) [ true ↦ omega arith | false ↦ omega arith ]

  pub cut_shorter : (oldest : ℕ) (ps : List (Placed V)) → length (cut_at oldest ps) ≤ length ps
  cut_shorter oldest ps = let both : length (cut_at oldest ps) + length (behind oldest ps) ≡ length ps = cut_length oldest ps in omega arith

  pub uncut : (oldest : ℕ) (ps : List (Placed V)) → cut_slot oldest ps ≡ None → cut_at oldest ps ≡ ps
  uncut oldest [] is = refl
  uncut oldest (p ∷ ps) is =
      elim (nat_le p.1.0 oldest) as (λ b. cond b (slot_before p.0 ps) (cut_slot oldest ps) ≡ None → cond b (p ∷ []) (p ∷ cut_at oldest ps) ≡ p ∷ ps) [
        | true ↦ alone ps
        | false ↦ λ e. ap (λ qs. p ∷ qs) (uncut oldest ps e)
      ] is
    where
      alone : (qs : List (Placed V)) → slot_before p.0 qs ≡ None → p ∷ [] ≡ p ∷ qs
      alone [] e = refl
      alone (q ∷ qs) e = absurd cc

  pub versions-cut_at : (oldest : ℕ) (ps : List (Placed V)) → versions_in (cut_at oldest ps) ≡ trimmed oldest (versions_in ps)
  versions-cut_at oldest [] = refl
  versions-cut_at oldest (p ∷ ps) = elim (nat_le p.1.0 oldest) as (λ b. versions_in (cond b (p ∷ []) (p ∷ cut_at oldest ps)) ≡ cond b (p.1 ∷ []) (p.1 ∷ trimmed oldest (versions_in ps))) [
    | true ↦ refl
    | false ↦ ap (λ vs. p.1 ∷ vs) (versions-cut_at oldest ps)
  ]

  -- the chain from the slot of the last version up to the index
  pub at_slot : (oldest n : ℕ) (a : Cells V) (o : Option ℕ) (s : ℕ) → first_slot oldest (trace n a o) ≡ Some s → Ends n a o
      → (x : Version V) × ((trace n a (Some s) ≡ (s, x) ∷ behind oldest (trace n a o)) × Ends n a (Some s))
  at_slot oldest zero a o s is ends = absurd cc
  at_slot oldest (suc n) a None s is ends = absurd cc
  at_slot oldest (suc n) a (Some q) s is ends =
      elim (a q) as (λ m. a q ≡ m → first_slot oldest (onto (Some q) m (trace n a)) ≡ Some s → ends_with (Some q) m (Ends n a)
      → (x : Version V) × ((trace (suc n) a (Some s) ≡ (s, x) ∷ behind oldest (onto (Some q) m (trace n a))) × Ends (suc n) a (Some s))) [
        | None ↦ λ e p w. absurd w
        | Some node ↦ λ e p w.
            elim (nat_le node.index oldest) as (λ b. cond b (Some q) (first_slot oldest (trace n a node.older)) ≡ Some s
            → (x : Version V) × ((trace (suc n) a (Some s) ≡ (s, x) ∷ cond b (trace n a node.older) (behind oldest (trace n a node.older))) × Ends (suc n) a (Some s))) [
              | true ↦ λ r.
                  let same : q ≡ s = cc in
                  let here : a s ≡ Some node = subst (λ u. a u ≡ Some node) same e in
                  ((node.index, node.value), (ap (λ m. onto (Some s) m (trace n a)) here, subst (λ m. ends_with (Some s) m (Ends n a)) (sym here) w))
              | false ↦ λ r.
                  let rest : (x : Version V) × ((trace n a (Some s) ≡ (s, x) ∷ behind oldest (trace n a node.older)) × Ends n a (Some s)) = at_slot oldest n a node.older s r w in
                  let longer : (trace (suc n) a (Some s) ≡ trace n a (Some s)) × Ends (suc n) a (Some s) = trace_longer n a (Some s) rest.1.1 in
                  (rest.0, (longer.0 ∙ rest.1.0, longer.1))
            ] p
      ] refl is ends

  cut_here : (n q s j : ℕ) (a b : Cells V) (x : Option V) (r : Option ℕ) (node : Node V) → q ≡ s → a q ≡ Some node
      → a s ≡ Some (record { index = j; value = x; older = r }) → b s ≡ Some (record { index = j; value = x; older = None })
      → (onto (Some q) (b q) (trace n b) ≡ (q, (node.index, node.value)) ∷ []) × ends_with (Some q) (b q) (Ends n b)
  cut_here n q s j a b x r node same e was now =
      let it : Some node ≡ Some (record { index = j; value = x; older = r }) = sym e ∙ ap a same ∙ was in
      let is : node ≡ record { index = j; value = x; older = r } = cc in
      let last : b q ≡ Some (record { index = j; value = x; older = None }) = ap b same ∙ now in
      let none : (trace n b None ≡ []) × Ends n b None = nothing n b in (
        ap (λ m. onto (Some q) m (trace n b)) last ∙ ap (λ ps. (q, (j, x)) ∷ ps) none.0 ∙ sym (ap (λ (m : Node V). (q, (m.index, m.value)) ∷ []) is),
        subst (λ m. ends_with (Some q) m (Ends n b)) (sym last) none.1,
      )

  cut_later : (n q : ℕ) (a b : Cells V) (node : Node V) (ps : List (Placed V)) → b q ≡ a q → a q ≡ Some node → (trace n b node.older ≡ ps) × Ends n b node.older
      → (onto (Some q) (b q) (trace n b) ≡ (q, (node.index, node.value)) ∷ ps) × ends_with (Some q) (b q) (Ends n b)
  cut_later n q a b node ps same e ih =
      let is : b q ≡ Some node = same ∙ e in (
        ap (λ m. onto (Some q) m (trace n b)) is ∙ ap (λ qs. (q, (node.index, node.value)) ∷ qs) ih.0,
        subst (λ m. ends_with (Some q) m (Ends n b)) (sym is) ih.1,
      )

  -- the slot of a newer version isn't that one, and isn't behind it
  newer : (oldest q s : ℕ) (v : Version V) (ps : List (Placed V)) → first_slot oldest ps ≡ Some s → visits q ((q, v) ∷ ps) ≤ 1
      → (q ≢ s) × ((0 < visits q ((q, v) ∷ ps)) × (visits q (behind oldest ps) ≡ 0))
  newer oldest q s v ps is once =
      let here : one (nat_eq q q) ≡ 1 = seen_same q in
      let there : 0 < visits s ps = first_visited oldest s ps is in
      let fewer : visits q (behind oldest ps) ≤ visits q ps = behind_fewer oldest q ps in
      (λ e. apart e there once here, (omega arith, omega arith))
    where
      apart : q ≡ s → 0 < visits s ps → visits q ((q, v) ∷ ps) ≤ 1 → one (nat_eq q q) ≡ 1 → ⊥
      apart e there once here = let at_q : 0 < visits q ps = subst (λ u. 0 < visits u ps) (sym e) there in omega arith

  -- the chain from the newest on, once that version is its last
  cut_trace : (oldest n : ℕ) (a b : Cells V) (o : Option ℕ) (s j : ℕ) (x : Option V) (r : Option ℕ) → first_slot oldest (trace n a o) ≡ Some s → Ends n a o → ((t : ℕ) → visits t (trace n a o) ≤ 1)
      → a s ≡ Some (record { index = j; value = x; older = r }) → b s ≡ Some (record { index = j; value = x; older = None })
      → ((t : ℕ) → 0 < visits t (trace n a o) → t ≢ s → visits t (behind oldest (trace n a o)) ≡ 0 → b t ≡ a t)
      → (trace n b o ≡ cut_at oldest (trace n a o)) × Ends n b o
  cut_trace oldest zero a b o s j x r is ends once was now others = absurd cc
  cut_trace oldest (suc n) a b None s j x r is ends once was now others = absurd cc
  cut_trace oldest (suc n) a b (Some q) s j x r is ends once was now others =
      elim (a q) as (λ m. a q ≡ m → first_slot oldest (onto (Some q) m (trace n a)) ≡ Some s → ends_with (Some q) m (Ends n a) → ((t : ℕ) → visits t (onto (Some q) m (trace n a)) ≤ 1)
      → ((t : ℕ) → 0 < visits t (onto (Some q) m (trace n a)) → t ≢ s → visits t (behind oldest (onto (Some q) m (trace n a))) ≡ 0 → b t ≡ a t)
      → (onto (Some q) (b q) (trace n b) ≡ cut_at oldest (onto (Some q) m (trace n a))) × ends_with (Some q) (b q) (Ends n b)) [
        | None ↦ λ e p w each keeps. absurd w
        | Some node ↦ λ e p w each keeps.
            elim (nat_le node.index oldest) as (λ c. cond c (Some q) (first_slot oldest (trace n a node.older)) ≡ Some s
            → ((t : ℕ) → 0 < visits t ((q, (node.index, node.value)) ∷ trace n a node.older) → t ≢ s → visits t (cond c (trace n a node.older) (behind oldest (trace n a node.older))) ≡ 0 → b t ≡ a t)
            → (onto (Some q) (b q) (trace n b) ≡ cond c ((q, (node.index, node.value)) ∷ []) ((q, (node.index, node.value)) ∷ cut_at oldest (trace n a node.older))) × ends_with (Some q) (b q) (Ends n b)) [
              | true ↦ λ u k. let same : q ≡ s = cc in cut_here n q s j a b x r node same e was now
              | false ↦ λ u k.
                  let apart : (q ≢ s) × ((0 < visits q ((q, (node.index, node.value)) ∷ trace n a node.older)) × (visits q (behind oldest (trace n a node.older)) ≡ 0)) =
                  newer oldest q s (node.index, node.value) (trace n a node.older) u (each q) in
                  cut_later n q a b node (cut_at oldest (trace n a node.older)) (k q apart.1.0 apart.0 apart.1.1) e
                  (cut_trace oldest n a b node.older s j x r u w (λ t. omega (arith, each t)) was now (λ t on ne off. k t (omega arith) ne off))
            ] p keeps
      ] refl is ends once others

  -- a chain stays that has no version up to the index, or nothing behind it
  pub trims_nothing : (n oldest : ℕ) (o : Option ℕ) (old : Slots (Node V)) → Ends n (value_at old) o → cut_slot oldest (trace n (value_at old) o) ≡ None → Trims n oldest o old old
  trims_nothing n oldest o old ends none =
      let same : cut_at oldest (trace n (value_at old) o) ≡ trace n (value_at old) o = uncut oldest (trace n (value_at old) o) none in
      let long : length (cut_at oldest (trace n (value_at old) o)) ≡ length (trace n (value_at old) o) = ap length same in
      record {
        ends = ends;
        cut = sym same;
        others = λ t off. refl;
        live = omega arith;
        cap = refl;
        spare = omega arith;
      }

  first_once : (oldest s : ℕ) (ps : List (Placed V)) → first_slot oldest ps ≡ Some s → visits s (behind oldest ps) + 1 ≤ visits s ps
  first_once oldest s [] is = absurd cc
  first_once oldest s (p ∷ ps) is =
      elim (nat_le p.1.0 oldest) as (λ b. cond b (Some p.0) (first_slot oldest ps) ≡ Some s → visits s (cond b ps (behind oldest ps)) + 1 ≤ visits s (p ∷ ps)) [
        | true ↦ λ e. let same : p.0 ≡ s = cc in let here : one (nat_eq s s) ≡ 1 = seen_same s in
            let there : one (nat_eq p.0 s) ≡ 1 = subst (λ u. one (nat_eq u s) ≡ 1) (sym same) here in omega arith
        | false ↦ λ e. let rest : visits s (behind oldest ps) + 1 ≤ visits s ps = first_once oldest s ps e in omega arith
      ] is

  absent : (t s : ℕ) (ps : List (Placed V)) → 0 < visits t ps → t ≡ s → visits s ps ≡ 0 → ⊥
  absent t s ps on e none = let there : 0 < visits s ps = subst (λ u. 0 < visits u ps) e on in omega arith

  present : (t s : ℕ) (ps : List (Placed V)) → visits t ps ≡ 0 → t ≡ s → 0 < visits s ps → ⊥
  present t s ps off e on = let none : visits s ps ≡ 0 = subst (λ u. visits u ps ≡ 0) e off in omega arith

  abbrev rest_of : List (Placed V) → List (Placed V)
  rest_of [] = []
  rest_of (p ∷ ps) = ps

  -- the version that ends the chain, and what was behind it
  pub line_behind : (n oldest s : ℕ) (o older : Option ℕ) (old mid : Slots (Node V)) → IsLine n (value_at old) o → first_slot oldest (trace n (value_at old) o) ≡ Some s → EndsAt s older old mid
      → IsLine n (value_at mid) older × (trace n (value_at mid) older ≡ behind oldest (trace n (value_at old) o))
  line_behind n oldest s o older old mid line is end =
      let at : (x : Version V) × ((trace n (value_at old) (Some s) ≡ (s, x) ∷ behind oldest (trace n (value_at old) o)) × Ends n (value_at old) (Some s)) = at_slot oldest n (value_at old) o s is line.ends in
      let step : (trace n (value_at old) (Some s) ≡ (s, (end.index, end.value)) ∷ trace n (value_at old) older) × Ends n (value_at old) older =
      trace_step n (value_at old) s (record { index = end.index; value = end.value; older = older }) end.was at.1.1 in
      let tail : trace n (value_at old) older ≡ behind oldest (trace n (value_at old) o) = ap rest_of (sym step.0 ∙ at.1.0) in
      let few : (t : ℕ) → visits t (trace n (value_at old) older) ≤ visits t (trace n (value_at old) o) = λ t. subst (λ ps. visits t ps ≤ visits t (trace n (value_at old) o)) (sym tail) (behind_fewer oldest t (trace n (value_at old) o)) in
      let gone : visits s (behind oldest (trace n (value_at old) o)) + 1 ≤ visits s (trace n (value_at old) o) = first_once oldest s (trace n (value_at old) o) is in
      let most : visits s (trace n (value_at old) o) ≤ 1 = line.once s in
      let none : visits s (trace n (value_at old) older) ≡ 0 = subst (λ ps. visits s ps ≡ 0) (sym tail) (omega arith) in
      let stays : (trace n (value_at mid) older ≡ trace n (value_at old) older) × Ends n (value_at mid) older =
      trace_stays n (value_at old) (value_at mid) older (λ t on. end.others t (λ e. absent t s (trace n (value_at old) older) on e none)) step.1 in
      (record { ends = stays.1; once = λ t. let a : visits t (trace n (value_at mid) older) ≡ visits t (trace n (value_at old) older) = ap (visits t) stays.0 in omega (arith, a, few t, line.once t) }, stays.0 ∙ tail)

  -- the chain is cut
  pub trims : (n oldest s : ℕ) (o older : Option ℕ) (old mid new : Slots (Node V)) → IsLine n (value_at old) o → first_slot oldest (trace n (value_at old) o) ≡ Some s
      → EndsAt s older old mid → Frees (behind oldest (trace n (value_at old) o)) mid new → Trims n oldest o old new
  trims n oldest s o older old mid new line is end frees =
      let rest : List (Placed V) = behind oldest (trace n (value_at old) o) in
      let gone : visits s (behind oldest (trace n (value_at old) o)) + 1 ≤ visits s (trace n (value_at old) o) = first_once oldest s (trace n (value_at old) o) is in
      let most : visits s (trace n (value_at old) o) ≤ 1 = line.once s in
      let now : value_at new s ≡ Some (record { index = end.index; value = end.value; older = None }) = frees.others s (omega arith) ∙ end.is in
      let cut : (trace n (value_at new) o ≡ cut_at oldest (trace n (value_at old) o)) × Ends n (value_at new) o =
      cut_trace oldest n (value_at old) (value_at new) o s end.index end.value older is line.ends line.once end.was now (λ t on ne off. frees.others t off ∙ end.others t ne) in
      let long : length (cut_at oldest (trace n (value_at old) o)) + length (behind oldest (trace n (value_at old) o)) ≡ length (trace n (value_at old) o) = cut_length oldest (trace n (value_at old) o) in
      let freed : live_count new + length (behind oldest (trace n (value_at old) o)) ≡ live_count mid = frees.live in
      let kept : live_count mid ≡ live_count old = end.live in
      let same_spare : mid.spare ≡ old.spare = end.spare in
      let more : mid.spare ≤ new.spare = frees.spare in
      record {
        ends = cut.1;
        cut = cut.0;
        others = λ t off.
            let few : visits t (behind oldest (trace n (value_at old) o)) ≤ visits t (trace n (value_at old) o) = behind_fewer oldest t (trace n (value_at old) o) in
            frees.others t (omega arith) ∙ end.others t (λ e. present t s (trace n (value_at old) o) off e (omega arith));
        live = omega arith;
        cap = frees.cap ∙ end.cap;
        spare = omega arith;
      }

  next_is : (p : Slots (Node V)) (s : ℕ) → next_slot (after_take p s) ≡ s
  next_is p s =
      let k : length (p.freed ++ s ∷ []) ≡ length p.freed + 1 = length-append p.freed (s ∷ []) in
      let n : length (p.freed ++ s ∷ []) - 1 ≡ length p.freed = omega arith in
      ap (λ i. get_or (p.freed ++ s ∷ []) i (length (after_take p s).cells)) n ∙ get_or-append_seam p.freed s [] (length (after_take p s).cells)

  -- a version that was taken out is put back as the last of its chain
  pub ends_at : (old mid new : Slots (Node V)) (s r : ℕ) (node : Node V) → value_at old s ≡ Some node → mid ≡ after_take old s → Empties old mid s → r ≡ next_slot mid
      → new ≡ after_put mid (record { index = node.index; value = node.value; older = None }) → Fills mid new r (record { index = node.index; value = node.value; older = None }) → EndsAt s node.older old new
  ends_at old mid new s r node was taken empties at put fills =
      let same : r ≡ s = at ∙ ap next_slot taken ∙ next_is old s in
      let more : live_count new ≡ live_count mid + 1 = fills.live in
      let fewer : live_count mid + 1 ≡ live_count old = empties.live in
      let spare : mid.spare ≡ old.spare + 1 = ap (λ p. p.spare) taken in
      let spare' : new.spare ≡ mid.spare - 1 = ap (λ p. p.spare) put in
      record {
        index = node.index;
        value = node.value;
        was = was;
        is = subst (λ t. value_at new t ≡ Some (record { index = node.index; value = node.value; older = None })) same fills.holds;
        others = λ t ne. fills.others t (λ e. ne (e ∙ same)) ∙ empties.others t ne;
        live = omega arith;
        cap = ap (λ p. p.cap) put ∙ ap (λ p. p.cap) taken;
        spare = omega arith;
      }
