-- Laws of the walk along a chain.
use Rattle.std.proofs.Common.{◌≡◌, ◌≢◌, ℕ, ◌<◌, ◌≤◌, zero, suc, Bool, true, false, cond, List, [], ◌∷◌, length, Option, Some, None, IsSome, is_some, refl, sym, ap, ◌∙◌, subst, arith, inl, inr}
use Rattle.std.proofs.lemmas.Bool.Decides.{eqb_tells}
use Rattle.std.specs.Prelude.{nat_eq}
use Rattle.r3_pool.specs.Slots.{Slots, value_at, live_count}
use Rattle.r3_chain.specs.Links.{Cells, Placed, onto, trace, ends_with, Ends, versions_in, visits, chain_in, IsChain}
use Rattle.r3_chain.specs.declared.node.Node.{Node}

-- one where it is that slot
abbrev pub one : Bool → ℕ
one b = cond b 1 0

pub seen_same : (s : ℕ) → one (nat_eq s s) ≡ 1
seen_same s = elim (eqb_tells s s) [ inl h ↦ ap one h.0 | inr h ↦ absurd (h.1 refl) ]

pub seen_other : (s t : ℕ) → s ≢ t → one (nat_eq s t) ≡ 0
seen_other s t ne = elim (eqb_tells s t) [ inl h ↦ absurd (ne h.1) | inr h ↦ ap one h.0 ]

module _ {V : Type 0} where
  -- more steps change nothing
  pub trace_longer : (n : ℕ) (a : Cells V) (o : Option ℕ) → Ends n a o → (trace (suc n) a o ≡ trace n a o) × Ends (suc n) a o
  trace_longer zero a None ends = (refl, tt)
  trace_longer zero a (Some s) ends = absurd cc
  trace_longer (suc n) a None ends = (refl, tt)
  trace_longer (suc n) a (Some s) ends =
      elim (a s) as (λ m. ends_with (Some s) m (Ends n a) → (onto (Some s) m (trace (suc n) a) ≡ onto (Some s) m (trace n a)) × ends_with (Some s) m (Ends (suc n) a)) [
        | None ↦ λ e. absurd e
        | Some node ↦ λ e.
            let rest : (trace (suc n) a node.older ≡ trace n a node.older) × Ends (suc n) a node.older = trace_longer n a node.older e in
            (ap (λ ps. (s, (node.index, node.value)) ∷ ps) rest.0, rest.1)
      ] ends

  -- one step along the chain
  pub trace_step : (n : ℕ) (a : Cells V) (s : ℕ) (node : Node V) → a s ≡ Some node → Ends n a (Some s)
      → (trace n a (Some s) ≡ (s, (node.index, node.value)) ∷ trace n a node.older) × Ends n a node.older
  trace_step zero a s node is ends = absurd cc
  trace_step (suc n) a s node is ends =
      let rest : Ends n a node.older = subst (λ m. ends_with (Some s) m (Ends n a)) is ends in
      let longer : (trace (suc n) a node.older ≡ trace n a node.older) × Ends (suc n) a node.older = trace_longer n a node.older rest in
      (ap (λ m. onto (Some s) m (trace n a)) is ∙ ap (λ ps. (s, (node.index, node.value)) ∷ ps) (sym longer.0), longer.1)

  pub first_live : (n : ℕ) (a : Cells V) (s : ℕ) → Ends n a (Some s) → IsSome (a s)
  first_live zero a s ends = absurd cc
  first_live (suc n) a s ends = elim (a s) as (λ m. ends_with (Some s) m (Ends n a) → IsSome m) [ None ↦ λ e. absurd e | Some node ↦ λ e. refl ] ends

  -- what changes no slot on the way changes no chain
  pub trace_stays : (n : ℕ) (a b : Cells V) (o : Option ℕ) → ((t : ℕ) → 0 < visits t (trace n a o) → b t ≡ a t) → Ends n a o → (trace n b o ≡ trace n a o) × Ends n b o
  trace_stays zero a b o keeps ends = (refl, ends)
  trace_stays (suc n) a b None keeps ends = (refl, tt)
  trace_stays (suc n) a b (Some s) keeps ends =
      elim (a s) as (λ m. a s ≡ m → ((t : ℕ) → 0 < visits t (onto (Some s) m (trace n a)) → b t ≡ a t) → ends_with (Some s) m (Ends n a)
      → (onto (Some s) (b s) (trace n b) ≡ onto (Some s) m (trace n a)) × ends_with (Some s) (b s) (Ends n b)) [
        | None ↦ λ is k e. absurd e
        | Some node ↦ λ is k e.
            let once : one (nat_eq s s) ≡ 1 = seen_same s in
            let same : b s ≡ Some node = k s (omega arith) ∙ is in
            let rest : (trace n b node.older ≡ trace n a node.older) × Ends n b node.older = trace_stays n a b node.older (λ t p. k t (omega arith)) e in (
              ap (λ m. onto (Some s) m (trace n b)) same ∙ ap (λ ps. (s, (node.index, node.value)) ∷ ps) rest.0,
              subst (λ m. ends_with (Some s) m (Ends n b)) (sym same) rest.1,
            )
      ] refl keeps ends

  pub nothing : (m : ℕ) (a : Cells V) → (trace m a None ≡ []) × Ends m a None
  nothing zero a = (refl, refl)
  nothing (suc m) a = (refl, tt)

  -- as many steps as versions do
  pub trace_fits : (n m : ℕ) (a : Cells V) (o : Option ℕ) → Ends n a o → length (trace n a o) ≤ m → (trace m a o ≡ trace n a o) × Ends m a o
  trace_fits zero m a None ends le = nothing m a
  trace_fits zero m a (Some s) ends le = absurd cc
  trace_fits (suc n) m a None ends le = nothing m a
  trace_fits (suc n) zero a (Some s) ends le =
      elim (a s) as (λ m. ends_with (Some s) m (Ends n a) → length (onto (Some s) m (trace n a)) ≤ 0 → (trace zero a (Some s) ≡ onto (Some s) m (trace n a)) × Ends zero a (Some s)) [
        | None ↦ λ e q. absurd e
        | Some node ↦ λ e q. absurd (omega arith)
      ] ends le
  trace_fits (suc n) (suc m) a (Some s) ends le =
      elim (a s) as (λ c. ends_with (Some s) c (Ends n a) → length (onto (Some s) c (trace n a)) ≤ suc m → (onto (Some s) c (trace m a) ≡ onto (Some s) c (trace n a)) × ends_with (Some s) c (Ends m a)) [
        | None ↦ λ e q. absurd e
        | Some node ↦ λ e q.
            let rest : (trace m a node.older ≡ trace n a node.older) × Ends m a node.older = trace_fits n m a node.older e (omega arith) in
            (ap (λ ps. (s, (node.index, node.value)) ∷ ps) rest.0, rest.1)
      ] ends le

  -- a slot on the way is in use
  pub visited_live : (n : ℕ) (a : Cells V) (o : Option ℕ) (t : ℕ) → 0 < visits t (trace n a o) → Ends n a o → IsSome (a t)
  visited_live zero a o t on ends = absurd (omega arith)
  visited_live (suc n) a None t on ends = absurd (omega arith)
  visited_live (suc n) a (Some s) t on ends =
      elim (a s) as (λ m. a s ≡ m → 0 < visits t (onto (Some s) m (trace n a)) → ends_with (Some s) m (Ends n a) → IsSome (a t)) [
        | None ↦ λ is p e. absurd e
        | Some node ↦ λ is p e. elim (eqb_tells s t) [
          | inl h ↦ subst (λ u. IsSome (a u)) h.1 (ap is_some is)
          | inr h ↦ let none : one (nat_eq s t) ≡ 0 = seen_other s t h.1 in visited_live n a node.older t (omega arith) e
        ]
      ] refl on ends

  -- the other chains
  pub trace_kept : (n : ℕ) (a b : Cells V) (s : ℕ) (o : Option ℕ) → a s ≡ None → ((t : ℕ) → t ≢ s → b t ≡ a t) → Ends n a o → (trace n b o ≡ trace n a o) × Ends n b o
  trace_kept n a b s o free others ends = trace_stays n a b o (λ t on. others t (λ e. apart t on e)) ends
    where
      apart : (t : ℕ) → 0 < visits t (trace n a o) → t ≡ s → ⊥
      apart t on e =
          let live : is_some (a s) ≡ true = subst (λ u. IsSome (a u)) e (visited_live n a o t on ends) in
          let dead : is_some (a s) ≡ false = ap is_some free in
          let no : false ≡ true = sym dead ∙ live in cc

  -- a version in a slot that was free, on top of a chain
  pub trace_pushed : (n : ℕ) (a b : Cells V) (s j : ℕ) (x : Option V) (o : Option ℕ) → a s ≡ None → ((t : ℕ) → t ≢ s → b t ≡ a t) → b s ≡ Some (record { index = j; value = x; older = o })
      → Ends n a o → (trace (suc n) b (Some s) ≡ (s, (j, x)) ∷ trace n a o) × Ends (suc n) b (Some s)
  trace_pushed n a b s j x o free others holds ends =
      let rest : (trace n b o ≡ trace n a o) × Ends n b o = trace_kept n a b s o free others ends in (
        ap (λ m. onto (Some s) m (trace n b)) holds ∙ ap (λ ps. (s, (j, x)) ∷ ps) rest.0,
        subst (λ m. ends_with (Some s) m (Ends n b)) (sym holds) rest.1,
      )

  pub chain_step : (nodes : Slots (Node V)) (s : ℕ) (node : Node V) → value_at nodes s ≡ Some node → IsChain nodes (Some s)
      → (chain_in nodes (Some s) ≡ (node.index, node.value) ∷ chain_in nodes node.older) × IsChain nodes node.older
  chain_step nodes s node is ends =
      let step : (trace (live_count nodes) (value_at nodes) (Some s) ≡ (s, (node.index, node.value)) ∷ trace (live_count nodes) (value_at nodes) node.older) × IsChain nodes node.older =
      trace_step (live_count nodes) (value_at nodes) s node is ends in
      (ap versions_in step.0, step.1)

  pub length-versions_in : (ps : List (Placed V)) → length (versions_in ps) ≡ length ps
  length-versions_in [] = refl
  length-versions_in (p ∷ ps) = ap suc (length-versions_in ps)
