-- How a workflow enters a queue and leaves it.
use Rattle.std.specs.Prelude.{◌≡◌, ◌+◌, ◌-◌, ◌^◌, min, true, false, List, Option, Some, if◌then◌else◌}
use Rattle.std.specs.Bool.{MatchBool}
use Rattle.std.specs.Ordering.{eq_by_cmp}
use Rattle.r3_rows.specs.declared.rows.Status.{Status}
use Rattle.sys_queue.specs.Lines.{Text, Place, Line, place_cmp, line_of, has_place, declared_of}
use Rattle.sys_queue.specs.Rows.{is_pending, is_enqueued, is_in}

-- one more waits or runs; the count stands still at its type's end
pub record Enters (status : Status) (p : Place) (old new : Line) : Type 0 where
  pub name : new.name ≡ old.name
  pub bound : new.bound ≡ old.bound
  pub running : new.running ≡ (if is_pending status then min (old.running + 1) (2 ^ 32 - 1) else old.running)
  pub waiting : (q : Place) → has_place q new ≡ (if is_enqueued status then (if eq_by_cmp place_cmp p q then true else has_place q old) else has_place q old)

-- one less waits or runs
pub record Leaves (status : Status) (p : Place) (old new : Line) : Type 0 where
  pub name : new.name ≡ old.name
  pub bound : new.bound ≡ old.bound
  pub running : new.running ≡ (if is_pending status then old.running - 1 else old.running)
  pub waiting : (q : Place) → has_place q new ≡ (if is_enqueued status then (if eq_by_cmp place_cmp p q then false else has_place q old) else has_place q old)

-- what stood under the name of a queue that stands now
pub record Had (name : Text) (queue : Option Text) (R : Line → Line → Type 0) (old : List Line) (now : Line) : Type 0 where
  pub line : Line
  pub stood : line_of name old ≡ Some line
  pub moved : MatchBool (is_in name queue) (R line now) (now ≡ line)

-- the queue of that name is changed, and no other one
pub record Changes (queue : Option Text) (R : Line → Line → Type 0) (old new : List Line) : Type 0 where
  pub declared : declared_of new ≡ declared_of old
  pub each : (name : Text) (now : Line) → line_of name new ≡ Some now → Had name queue R old now
