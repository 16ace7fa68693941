-- A drain is a run of its dequeues and turns.
use Rattle.std.proofs.Common.{◌≡◌, ℕ, suc, zero, ◌+◌, ◌≤◌, true, false, List, [], ◌∷◌, ◌++◌, map, length, refl, sym, ap, ◌∙◌, arith, length-append, ◌-◌}
use Rattle.std.specs.Prelude.{fold}
use Rattle.std.specs.List.{AllByRecursion}
use Rattle.std.proofs.lemmas.List.Sums.{fold-append}
use Rattle.r3_model.specs.Language.{Text, Language, Queue}
use Rattle.r3_model.specs.Event.{Event, Turn, Dequeue, Reply, Idle, Spent}
use Rattle.r3_model.specs.Run.{Trail, next, run, pending_ids}
use Rattle.r3_model.specs.Drain.{Round, Drained, Form, Plain, Paired, is_began, spend_of, spend, second_turn, give_turn, queues_tried, round, rounds, drained}
use Rattle.r3_model.specs.Laws.{IsOfDrain}

all-append : {X : Type 0} (A : X → Type 0) (xs ys : List X) → AllByRecursion A xs → AllByRecursion A ys → AllByRecursion A (xs ++ ys)
all-append A [] ys a b = b
all-append A (x ∷ xs) ys a b = (a.0, all-append A xs ys a.1 b)

module _ (P : Language) where
  -- from t by a run of events of a drain, n in all with those that are left
  record Comes (t : Trail) (n : ℕ) (to : Trail) (left : ℕ) : Type 0 where
    evs : List Event
    of_drain : AllByRecursion IsOfDrain evs
    count : length evs + left ≤ n
    runs : to ≡ run P t evs

  abbrev Within : Trail → ℕ → Round → Type 0
  Within t n r = Comes t n r.trail r.left

  spend_of-within : (t : Trail) (n left : ℕ) (r : Round) (ev : Event) → IsOfDrain ev → Comes t n r.trail left → Within t n (spend_of (next P) P.queues left r ev)
  spend_of-within t n zero r ev is c = record { evs = c.evs; of_drain = c.of_drain; count = c.count; runs = c.runs }
  spend_of-within t n (suc left) r ev is c = record {
    evs = c.evs ++ ev ∷ [];
    of_drain = all-append IsOfDrain c.evs (ev ∷ []) c.of_drain (is, tt);
    count = omega (arith, c.count, length-append c.evs (ev ∷ []));
    runs = ap (λ (x : Trail). next P x ev) c.runs ∙ sym (fold-append (next P) t c.evs (ev ∷ []));
  }

  spend-within : (t : Trail) (n : ℕ) (r : Round) (ev : Event) → IsOfDrain ev → Within t n r → Within t n (spend (next P) P.queues r ev)
  spend-within t n r ev is c = spend_of-within t n r.left r ev is c

  queues-within : (t : Trail) (n : ℕ) (r : Round) (qs : List Queue) → Within t n r → Within t n (fold (spend (next P) P.queues) r (map (λ (q : Queue). Dequeue q.name) qs))
  queues-within t n r [] c = c
  queues-within t n r (q ∷ qs) c = queues-within t n (spend (next P) P.queues r (Dequeue q.name)) qs (spend-within t n r (Dequeue q.name) tt c)

  second-within : (t : Trail) (n : ℕ) (r : Round) (id : Text) → Within t n r → Within t n (second_turn (next P) P.queues id r)
  second-within t n r id c = elim (is_began r.trail.last) as (λ b. Within t n (elim b [ true ↦ spend (next P) P.queues r (Turn id) | false ↦ r ])) [ true ↦ spend-within t n r (Turn id) tt c | false ↦ c ]

  give-within : (t : Trail) (n : ℕ) (form : Form) (r : Round) (id : Text) → Within t n r → Within t n (give_turn (next P) P.queues form r id)
  give-within t n Plain r id c = spend-within t n r (Turn id) tt c
  give-within t n Paired r id c = second-within t n (spend (next P) P.queues r (Turn id)) id (spend-within t n r (Turn id) tt c)

  turns-within : (t : Trail) (n : ℕ) (form : Form) (r : Round) (ids : List Text) → Within t n r → Within t n (fold (give_turn (next P) P.queues form) r ids)
  turns-within t n form r [] c = c
  turns-within t n form r (id ∷ ids) c = turns-within t n form (give_turn (next P) P.queues form r id) ids (give-within t n form r id c)

  round-within : (t : Trail) (n left : ℕ) (form : Form) (u : Trail) → Comes t n u left → Within t n (round (next P) P.queues form left u)
  round-within t n left form u c =
      let start : Round = record { trail = u; left = left; changed = false; cut = false } in
      let tried : Within t n (queues_tried (next P) P.queues start) = queues-within t n start P.queues c in
      turns-within t n form (queues_tried (next P) P.queues start) (pending_ids (queues_tried (next P) P.queues start).trail.state) tried

  record Done (t : Trail) (n : ℕ) (d : Drained) : Type 0 where
    evs : List Event
    of_drain : AllByRecursion IsOfDrain evs
    count : length evs ≤ n
    runs : d.trail ≡ run P t evs

  done : (t : Trail) (n left : ℕ) (to : Trail) (reply : Reply) → Comes t n to left → Done t n (record { trail = to; reply = reply })
  done t n left to reply c = record { evs = c.evs; of_drain = c.of_drain; count = omega (arith, c.count); runs = c.runs }

  rounds-done : (t : Trail) (form : Form) (n m more left : ℕ) (u : Trail) → Comes t n u left → Done t n (rounds (next P) P.queues form m more left u)
  rounds-done t form n m zero left u c = done t n left u (Spent m) c
  rounds-done t form n m (suc more) left u c =
      let r = round (next P) P.queues form left u in
      let w : Within t n r = round-within t n left form u c in
      let later = rounds (next P) P.queues form m more r.left r.trail in
      let after : Done t n later = rounds-done t form n m more r.left r.trail w in
      elim r.cut as (λ b. Done t n (elim b [ true ↦ record { trail = r.trail; reply = Spent m } | false ↦ elim r.changed [ false ↦ record { trail = r.trail; reply = Idle (m - r.left) } | true ↦ elim r.left [ zero ↦ record { trail = r.trail; reply = Spent m } | suc left ↦ later ] ] ])) [
        | true ↦ done t n r.left r.trail (Spent m) w
        | false ↦ elim r.changed as (λ b. Done t n (elim b [ false ↦ record { trail = r.trail; reply = Idle (m - r.left) } | true ↦ elim r.left [ zero ↦ record { trail = r.trail; reply = Spent m } | suc left ↦ later ] ])) [
          | false ↦ done t n r.left r.trail (Idle (m - r.left)) w
          | true ↦ elim r.left as (λ k. Done t n (elim k [ zero ↦ record { trail = r.trail; reply = Spent m } | suc left ↦ later ])) [ zero ↦ done t n r.left r.trail (Spent m) w | suc left ↦ after ]
        ]
      ]

  pub drained-run : (form : Form) (n : ℕ) (t : Trail) → (evs : List Event) × AllByRecursion IsOfDrain evs × (length evs ≤ n) × ((drained (next P) P.queues form n t).trail ≡ run P t evs)
  drained-run form n t =
      let d : Done t n (drained (next P) P.queues form n t) = rounds-done t form n n (n + 1) n t (record { evs = []; of_drain = tt; count = omega arith; runs = refl }) in
      (d.evs, d.of_drain, d.count, d.runs)
