-- A drain at some point between two of its dequeues and turns.
use Rattle.std.specs.Prelude.{◌≡◌, ℕ, zero, suc, ◌+◌, ◌-◌, ◌*◌, ◌≤◌, Bool, true, false, IsTrue, IsSome, List, [], ◌∷◌, length, map, fold, Option, ⊤}
use Rattle.std.specs.List.{AllByRecursion, list_any}
use Rattle.std.specs.Str.{bytes_eq}
use Rattle.r3_value.specs.declared.value.Outcome.{Outcome}
use Rattle.r3_desk.specs.Asked as desk
use Rattle.r3_desk.specs.Crash.{Reach}
use Rattle.r3_model.specs.Language.{Text, Language, Queue}
use Rattle.r3_model.specs.Event.{Event, Turn, Dequeue, Call, Spent, Idle}
use Rattle.r3_model.specs.Held.{Mark, Said, Asked, asked_by}
use Rattle.r3_model.specs.Machine.{State}
use Rattle.r3_model.specs.Rows.{flow_at}
use Rattle.r3_model.specs.Run.{Trail, next}
use Rattle.r3_model.specs.Drain.{Drained, Plain, Round, drained, rounds, spend, turns_given}
use Rattle.r3_exec.specs.Runs.{Runs, language}
use Rattle.r3_exec.specs.Does.{told_after, SyncsWithin}
use Rattle.r3_exec.specs.declared.exec.Exec.{Exec}
use Rattle.r3_recover.specs.Kept.{LeavesKept, settled_by}
use Rattle.r3_recover.specs.Drained.{Comes, IsAt, Drains}

-- what is left of the round: dequeues and then turns, or turns alone
pub data Phase : Type 0 where
  Queues : (names : List Text) → Phase
  Turns : (ids : List Text) → Phase

module _ (P : Language) where
  -- the end of a round, with rounds behind it
  abbrev pub ended_round : ℕ → ℕ → Round → Drained
  ended_round n more r =
      let later = rounds (next P) P.queues Plain n more r.left r.trail in
      elim r.cut [
        | true ↦ record { trail = r.trail; reply = Spent n }
        | false ↦ elim r.changed [
          | false ↦ record { trail = r.trail; reply = Idle (n - r.left) }
          | true ↦ elim r.left [ zero ↦ record { trail = r.trail; reply = Spent n } | suc left ↦ later ]
        ]
      ]

  abbrev pub spent_on : Round → List Event → Round
  spent_on r evs = fold (spend (next P) P.queues) r evs

  -- what is left of a drain, from within a round
  abbrev pub goes_on : ℕ → ℕ → Round → Phase → Drained
  goes_on n more r (Queues names) = ended_round n more (turns_given (next P) P.queues Plain (spent_on r (map Dequeue names)))
  goes_on n more r (Turns ids) = ended_round n more (spent_on r (map Turn ids))

  -- A drain of so many turns and more, and of so many more at least, has come to this point of a round, with
  -- those more left.
  abbrev pub Reaches : ℕ → ℕ → ℕ → State → State → List Call → List Mark → Phase → Bool → Type 0
  Reaches least done spare old now calls marks phase changed =
      (e : ℕ) (t : Trail) (rest : List (Option Outcome)) → least ≤ e → IsAt old calls rest t
      → (u : Trail) × Comes t u now calls marks rest
      × (drained (next P) P.queues Plain (done + e) t
      ≡ goes_on (done + e) (e + spare) (record { trail = u; left = e; changed = changed; cut = false }) phase)

-- the queues are declared, and the workflows are there
abbrev pub AreThere : Language → State → Phase → Type 0
AreThere P st (Queues names) = AllByRecursion (λ name. IsTrue (list_any (λ (q : Queue). bytes_eq q.name name) P.queues)) names
AreThere P st (Turns ids) = AllByRecursion (λ id. IsSome (flow_at st.history (length st.history) id)) ids

-- no mark is of more entries
abbrev pub AreWithin : ℕ → List Mark → Type 0
AreWithin most [] = ⊤
AreWithin most (Said bytes kept ∷ marks) = (kept ≤ most) × AreWithin most marks
AreWithin most (Asked kept ∷ marks) = (kept ≤ most) × AreWithin most marks

-- The drain from `from` on has come to this point, with so many turns left, and so has the desk.
pub record Point {D : Type 0} (told_size : D → Option ℕ) (told_image : D → Option (List ℕ)) (may_leave : D → List ℕ → Type 0) (moment : D → ℕ) (reach : D → Reach) (said : D → Option (List ℕ)) (asked : D → Option (List desk.Call)) (syncs : D → Option ℕ) (from now : D) (exec : Exec) (st : State) (settled turns : ℕ) (phase : Phase) (left : ℕ) (changed : Bool) : Type 0 where
  pub calls : List Call
  pub marks : List Mark
  pub after : State
  -- the machine
  pub done : ℕ
  pub least : ℕ
  pub spare : ℕ
  pub total : done + left ≡ turns
  pub reaches : Reaches (language exec) least done spare st after calls marks phase changed
  pub drains : Drains (language exec) done st after calls marks
  pub least_left : least ≤ left
  pub least_one : least ≤ 1
  pub spared : changed ≡ true → 1 ≤ spare
  pub there : AreThere (language exec) after phase
  -- the desk
  pub told : asked now ≡ told_after (asked from) calls
  pub runs : Runs told_size told_image may_leave now exec after (settled_by settled marks)
  pub few_syncs : SyncsWithin (syncs from) (syncs now) (2 * length calls)
  pub leaves : LeavesKept moment reach said asked from now after.history settled marks
  pub said_same : said now ≡ said from
  -- the marks
  pub counts : asked_by marks ≡ length calls
  pub no_less : settled ≤ settled_by settled marks
  pub kept : AreWithin (settled_by settled marks) marks
