-- How a drain goes on within a round.
use Rattle.std.proofs.Common.{◌≡◌, ℕ, zero, suc, ◌+◌, ◌-◌, ◌≤◌, Bool, true, false, ◌||◌, List, [], ◌∷◌, ◌++◌, map, refl, sym, ap, ◌∙◌, subst, arith}
use Rattle.std.specs.Prelude.{fold, Option, ⊤}
use Rattle.r3_value.specs.declared.value.Outcome.{Outcome}
use Rattle.r3_model.specs.Language.{Text, Language, Queue}
use Rattle.r3_model.specs.Event.{Event, Turn, Dequeue, Reply, Call, Spent, Idle}
use Rattle.r3_model.specs.Goes.{Steps}
use Rattle.r3_model.specs.Held.{Mark}
use Rattle.r3_model.specs.Machine.{State}
use Rattle.r3_model.specs.Run.{Trail, next, pending_ids}
use Rattle.r3_model.specs.Drain.{Drained, Plain, Round, drained, rounds, spend, spend_of, give_turn, turns_given, changes}
use Rattle.r3_recover.specs.Drained.{Comes, IsAt, Drains, Replies, answers_of}
use Rattle.r3_recover.specs.Kept.{marks_on}
use Rattle.r3_recover.specs.Rounds.{Phase, Queues, Turns, ended_round, spent_on, goes_on, Reaches}
use Rattle.r3_recover.proofs.Nexts.{next-comes, comes-then, at-first, nothing-comes}

module _ (P : Language) where
  -- ---- no turn is left

  zero-trail : (r : Round) (evs : List Event) → r.left ≡ 0 → ((spent_on P r evs).trail ≡ r.trail) × ((spent_on P r evs).left ≡ 0)
  zero-trail r [] none = (refl, none)
  zero-trail r (ev ∷ evs) none =
      let cut : Round = record { trail = r.trail; left = 0; changed = r.changed; cut = true } in
      let same : spend (next P) P.queues r ev ≡ cut = ap (λ (k : ℕ). spend_of (next P) P.queues k r ev) none in
      let later = zero-trail cut evs refl in (
        ap (λ (x : Round). (spent_on P x evs).trail) same ∙ later.0,
        ap (λ (x : Round). (spent_on P x evs).left) same ∙ later.1,
      )

  turns-are : (r : Round) (ids : List Text) → fold (give_turn (next P) P.queues Plain) r ids ≡ spent_on P r (map Turn ids)
  turns-are r [] = refl
  turns-are r (id ∷ ids) = turns-are (spend (next P) P.queues r (Turn id)) ids

  -- the end of a round, by its parts
  abbrev by_left : ℕ → Trail → Drained → ℕ → Drained
  by_left n t later k = elim k [ zero ↦ record { trail = t; reply = Spent n } | suc left ↦ later ]

  abbrev by_change : ℕ → Round → Drained → Bool → Drained
  by_change n r later b = elim b [ false ↦ record { trail = r.trail; reply = Idle (n - r.left) } | true ↦ by_left n r.trail later r.left ]

  abbrev by_cut : ℕ → Round → Drained → Bool → Drained
  by_cut n r later b = elim b [ true ↦ record { trail = r.trail; reply = Spent n } | false ↦ by_change n r later r.changed ]

  ended-trail : (n more : ℕ) (r : Round) → r.left ≡ 0 → (ended_round P n more r).trail ≡ r.trail
  ended-trail n more r none =
      let later = rounds (next P) P.queues Plain n more r.left r.trail in
      elim r.cut as (λ b. (by_cut n r later b).trail ≡ r.trail) [
        | true ↦ refl
        | false ↦ elim r.changed as (λ b. (by_change n r later b).trail ≡ r.trail) [
          | false ↦ refl
          | true ↦ ap (λ (k : ℕ). (by_left n r.trail later k).trail) none
        ]
      ]

  -- then the drain goes no further
  pub goes-nowhere : (n more : ℕ) (r : Round) (phase : Phase) → r.left ≡ 0 → (goes_on P n more r phase).trail ≡ r.trail
  goes-nowhere n more r (Queues names) none =
      let tried : Round = spent_on P r (map Dequeue names) in
      let z = zero-trail r (map Dequeue names) none in
      let ids : List Text = pending_ids tried.trail.state in
      let y = zero-trail tried (map Turn ids) z.1 in
      let are : turns_given (next P) P.queues Plain tried ≡ spent_on P tried (map Turn ids) = turns-are tried ids in
      ap (λ (x : Round). (ended_round P n more x).trail) are
      ∙ ended-trail n more (spent_on P tried (map Turn ids)) y.1 ∙ y.0 ∙ z.0
  goes-nowhere n more r (Turns ids) none =
      let z = zero-trail r (map Turn ids) none in
      ended-trail n more (spent_on P r (map Turn ids)) z.1 ∙ z.0

  zero-cut : (r : Round) (evs : List Event) → r.left ≡ 0 → r.cut ≡ true → (spent_on P r evs).cut ≡ true
  zero-cut r [] none cut = cut
  zero-cut r (ev ∷ evs) none cut =
      let after : Round = record { trail = r.trail; left = 0; changed = r.changed; cut = true } in
      let same : spend (next P) P.queues r ev ≡ after = ap (λ (k : ℕ). spend_of (next P) P.queues k r ev) none in
      ap (λ (x : Round). (spent_on P x evs).cut) same ∙ zero-cut after evs refl refl

  ended-cut : (n more : ℕ) (r : Round) → r.cut ≡ true → (ended_round P n more r).reply ≡ Spent n
  ended-cut n more r cut =
      let later = rounds (next P) P.queues Plain n more r.left r.trail in
      ap (λ (b : Bool). (by_cut n r later b).reply) cut

  -- a dequeue or a turn is still to come
  abbrev pub HasMore : Phase → Type 0
  HasMore (Queues []) = ⊥
  HasMore (Queues (name ∷ names)) = ⊤
  HasMore (Turns []) = ⊥
  HasMore (Turns (id ∷ ids)) = ⊤

  cut-short : (n more : ℕ) (u : Trail) (changed : Bool) (phase : Phase) → HasMore phase
      → (goes_on P n more (record { trail = u; left = 0; changed = changed; cut = false }) phase).reply ≡ Spent n
  cut-short n more u changed (Queues []) has = absurd has
  cut-short n more u changed (Queues (name ∷ names)) has =
      let r : Round = record { trail = u; left = 0; changed = changed; cut = true } in
      let tried : Round = spent_on P r (map Dequeue names) in
      let ids : List Text = pending_ids tried.trail.state in
      ap (λ (x : Round). (ended_round P n more x).reply) (turns-are tried ids)
      ∙ ended-cut n more (spent_on P tried (map Turn ids))
      (zero-cut tried (map Turn ids) (zero-trail r (map Dequeue names) refl).1 (zero-cut r (map Dequeue names) refl refl))
  cut-short n more u changed (Turns []) has = absurd has
  cut-short n more u changed (Turns (id ∷ ids)) has =
      let r : Round = record { trail = u; left = 0; changed = changed; cut = true } in
      ended-cut n more (spent_on P r (map Turn ids)) (zero-cut r (map Turn ids) refl refl)

  -- then the drain of just those turns is spent
  pub replies-cut : (done spare : ℕ) (old now : State) (calls : List Call) (marks : List Mark) (phase : Phase) (changed : Bool) → HasMore phase
      → Reaches P 0 done spare old now calls marks phase changed → Replies P done old calls (Spent done)
  replies-cut done spare old now calls marks phase changed has reaches = λ t rest here.
      let x = reaches 0 t rest (omega arith) here in
      let n : done ≡ done + 0 = omega arith in
      ap (λ (k : ℕ). (drained (next P) P.queues Plain k t).reply) n ∙ ap (λ (d : Drained). d.reply) x.2
      ∙ cut-short (done + 0) (0 + spare) x.0 changed phase has ∙ ap (λ (k : ℕ). Spent k) (sym n)

  -- so a drain of just those turns has come this far
  pub reaches-drains : (done spare : ℕ) (old now : State) (calls : List Call) (marks : List Mark) (phase : Phase) (changed : Bool)
      → Reaches P 0 done spare old now calls marks phase changed → Drains P done old now calls marks
  reaches-drains done spare old now calls marks phase changed reaches = λ t rest here.
      let x = reaches 0 t rest (omega arith) here in
      let n : done ≡ done + 0 = omega arith in
      let r : Round = record { trail = x.0; left = 0; changed = changed; cut = false } in
      let trail : (drained (next P) P.queues Plain done t).trail ≡ x.0 =
      ap (λ (k : ℕ). (drained (next P) P.queues Plain k t).trail) n ∙ ap (λ (d : Drained). d.trail) x.2
      ∙ goes-nowhere (done + 0) (0 + spare) r phase refl in
      subst (λ (u : Trail). Comes t u now calls marks rest) (sym trail) x.1

  -- ---- one more dequeue or turn

  spend-next : (e : ℕ) (u : Trail) (changed : Bool) (ev : Event) (reply : Reply) → (next P u ev).last ≡ reply
      → spend (next P) P.queues (record { trail = u; left = suc e; changed = changed; cut = false }) ev
      ≡ record { trail = next P u ev; left = e; changed = changed || changes reply; cut = false }
  spend-next e u changed ev reply last =
      ap (λ (r : Reply). let x : Round = record { trail = next P u ev; left = e; changed = changed || changes r; cut = false } in x) last

  -- the phase begins with this event, and the rest follows
  abbrev pub Begins : Phase → Event → Phase → Type 0
  Begins phase ev rest = (n more : ℕ) (r : Round) → goes_on P n more r phase ≡ goes_on P n more (spend (next P) P.queues r ev) rest

  pub queue-begins : (name : Text) (names : List Text) → Begins (Queues (name ∷ names)) (Dequeue name) (Queues names)
  queue-begins name names = λ n more r. refl

  pub turn-begins : (id : Text) (ids : List Text) → Begins (Turns (id ∷ ids)) (Turn id) (Turns ids)
  turn-begins id ids = λ n more r. refl

  pub reaches-next : (least done spare : ℕ) (old now new : State) (calls last : List Call) (marks : List Mark) (phase rest : Phase) (changed : Bool) (ev : Event) (reply : Reply)
      → least ≤ 1 → Begins phase ev rest → Steps P now ev reply last new
      → Reaches P least done spare old now calls marks phase changed
      → Reaches P 0 (done + 1) (spare + 1) old new (calls ++ last) (marks ++ marks_on now.history last) rest (changed || changes reply)
  reaches-next least done spare old now new calls last marks phase rest changed ev reply one begins steps reaches = λ e t answers le here.
      let x = reaches (suc e) t (answers_of last ++ answers) (omega (arith, one)) (at-first P old calls last answers t here) in
      let n = next-comes P x.0 answers now new ev reply last steps (x.1.state, x.1.answers) in
      let total : done + 1 + e ≡ done + suc e = omega arith in
      let fuel : suc e + spare ≡ e + (spare + 1) = omega arith in
      let r : Round = record { trail = x.0; left = suc e; changed = changed; cut = false } in (
        next P x.0 ev,
        comes-then P t x.0 (next P x.0 ev) now new calls last marks (marks_on now.history last) answers x.1 n.comes,
        ap (λ (k : ℕ). drained (next P) P.queues Plain k t) total ∙ x.2
            ∙ ap (λ (k : ℕ). goes_on P (done + suc e) k r phase) fuel
            ∙ ap (λ (k : ℕ). goes_on P k (e + (spare + 1)) r phase) (sym total)
            ∙ begins (done + 1 + e) (e + (spare + 1)) r
            ∙ ap (λ (y : Round). goes_on P (done + 1 + e) (e + (spare + 1)) y rest) (spend-next e x.0 changed ev reply n.last),
      )

  -- ---- from the dequeues to the turns, and from one round to the next

  queues-are : (qs : List Queue) → map (λ (q : Queue). Dequeue q.name) qs ≡ map Dequeue (map (λ (q : Queue). q.name) qs)
  queues-are [] = refl
  queues-are (q ∷ qs) = ap (λ (evs : List Event). Dequeue q.name ∷ evs) (queues-are qs)

  abbrev pub queue_names : List Text
  queue_names = map (λ (q : Queue). q.name) P.queues

  round-begins : (n more left : ℕ) (u : Trail) → rounds (next P) P.queues Plain n (suc more) left u
      ≡ goes_on P n more (record { trail = u; left = left; changed = false; cut = false }) (Queues queue_names)
  round-begins n more left u =
      ap (λ (evs : List Event). ended_round P n more (turns_given (next P) P.queues Plain (spent_on P (record { trail = u; left = left; changed = false; cut = false }) evs))) (queues-are P.queues)

  pub reaches-first : (st : State) → Reaches P 0 0 0 st st [] [] (Queues queue_names) false
  reaches-first st = λ e t rest le here.
      let n : 0 + e ≡ e = omega arith in
      let fuel : e + 1 ≡ suc (e + 0) = omega arith in (
        t,
        nothing-comes P t st rest here,
        ap (λ (k : ℕ). drained (next P) P.queues Plain k t) n
            ∙ ap (λ (k : ℕ). rounds (next P) P.queues Plain e k e t) fuel
            ∙ round-begins e (e + 0) e t
            ∙ ap (λ (k : ℕ). goes_on P k (e + 0) (record { trail = t; left = e; changed = false; cut = false }) (Queues queue_names)) (sym n),
      )

  pub reaches-turns : (least done spare : ℕ) (old now : State) (calls : List Call) (marks : List Mark) (changed : Bool)
      → Reaches P least done spare old now calls marks (Queues []) changed → Reaches P least done spare old now calls marks (Turns (pending_ids now)) changed
  reaches-turns least done spare old now calls marks changed reaches = λ e t rest le here.
      let x = reaches e t rest le here in
      let r : Round = record { trail = x.0; left = e; changed = changed; cut = false } in (
        x.0,
        x.1,
        x.2 ∙ ap (λ (y : Round). ended_round P (done + e) (e + spare) y) (turns-are r (pending_ids x.0.state))
            ∙ ap (λ (st : State). ended_round P (done + e) (e + spare) (spent_on P r (map Turn (pending_ids st)))) x.1.state,
      )

  later-round : (least done spare : ℕ) (old now : State) (calls : List Call) (marks : List Mark) → least ≤ 1
      → Reaches P least done (suc spare) old now calls marks (Turns []) true
      → (e : ℕ) (t : Trail) (rest : List (Option Outcome)) → 1 ≤ e → IsAt old calls rest t
      → (u : Trail) × Comes t u now calls marks rest
      × (drained (next P) P.queues Plain (done + e) t
      ≡ goes_on P (done + e) (e + spare) (record { trail = u; left = e; changed = false; cut = false }) (Queues queue_names))
  later-round least done spare old now calls marks one reaches zero t rest le here = absurd (omega (arith, le))
  later-round least done spare old now calls marks one reaches (suc e) t rest le here =
      let x = reaches (suc e) t rest (omega (arith, one)) here in
      let fuel : suc e + suc spare ≡ suc (suc e + spare) = omega arith in (
        x.0,
        x.1,
        x.2 ∙ ap (λ (k : ℕ). rounds (next P) P.queues Plain (done + suc e) k (suc e) x.0) fuel
            ∙ round-begins (done + suc e) (suc e + spare) (suc e) x.0,
      )

  -- the round has changed something, and turns are left
  pub reaches-round : (least done spare : ℕ) (old now : State) (calls : List Call) (marks : List Mark) → least ≤ 1
      → Reaches P least done (suc spare) old now calls marks (Turns []) true → Reaches P 1 done spare old now calls marks (Queues queue_names) false
  reaches-round least done spare old now calls marks one reaches = λ e t rest le here.
      later-round least done spare old now calls marks one reaches e t rest le here

  -- and none is left, or nothing was changed: the reply of the drain, with as many turns
  pub replies-spent : (done spare : ℕ) (old now : State) (calls : List Call) (marks : List Mark)
      → Reaches P 0 done spare old now calls marks (Turns []) true → Replies P done old calls (Spent done)
  replies-spent done spare old now calls marks reaches = λ t rest here.
      let x = reaches 0 t rest (omega arith) here in
      let n : done ≡ done + 0 = omega arith in
      ap (λ (k : ℕ). (drained (next P) P.queues Plain k t).reply) n ∙ ap (λ (d : Drained). d.reply) x.2 ∙ ap (λ (k : ℕ). Spent k) (sym n)

  pub replies-idle : (least done spare left : ℕ) (old now : State) (calls : List Call) (marks : List Mark) → least ≤ left
      → Reaches P least done spare old now calls marks (Turns []) false → Replies P (done + left) old calls (Idle done)
  replies-idle least done spare left old now calls marks le reaches = λ t rest here.
      let x = reaches left t rest le here in
      let n : done + left - left ≡ done = omega arith in
      ap (λ (d : Drained). d.reply) x.2 ∙ ap (λ (k : ℕ). Idle k) n

  pub drains-idle : (least done spare left : ℕ) (old now : State) (calls : List Call) (marks : List Mark) → least ≤ left
      → Reaches P least done spare old now calls marks (Turns []) false → Drains P (done + left) old now calls marks
  drains-idle least done spare left old now calls marks le reaches = λ t rest here.
      let x = reaches left t rest le here in
      subst (λ (u : Trail). Comes t u now calls marks rest) (sym (ap (λ (d : Drained). d.trail) x.2)) x.1
