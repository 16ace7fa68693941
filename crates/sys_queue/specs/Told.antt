-- What one queue tells of itself.
use Rattle.std.specs.Prelude.{◌≡◌, ℕ, ◌<◌, ◌≤◌, [], true, false}
use Rattle.std.specs.Ordering.{is_gt}
use Rattle.sys_queue.specs.Lines.{Place, Line, place_cmp, has_place}
use Rattle.sys_queue.specs.declared.next.Next.{Next}
use Rattle.sys_queue.specs.declared.next.Next.TheVariants.{Ready, Empty, Limit}

-- the least place is this workflow's
pub record IsLeast (l : Line) (p : Place) : Type 0 where
  pub stands : has_place p l ≡ true
  pub least : (q : Place) → has_place q l ≡ true → is_gt (place_cmp p q) ≡ false

abbrev pub TellsLine : Line → Next → Type 0
TellsLine l (Ready id) = (l.running < l.bound) × ((started : ℕ) × IsLeast l (started, id.now))
TellsLine l Empty = (l.running < l.bound) × (l.waiting ≡ [])
TellsLine l (Limit running) = (l.bound ≤ l.running) × (running ≡ l.running)
