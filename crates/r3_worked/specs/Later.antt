-- Which events fit a history that isn't empty.
use Rattle.std.specs.Prelude.{⊤}
use Rattle.r3_model.specs.Fits.{IsFit}
use Rattle.r3_plain.specs.declared.event.Event.{Event}
use Rattle.r3_plain.specs.declared.event.Event.TheVariants as events

-- no program, and commands keep the limits of their lines
abbrev pub FitsLater : Event → Type 0
FitsLater (events.Append text) = ⊥
FitsLater (events.Run command) = IsFit command
FitsLater (events.Turn id) = ⊤
FitsLater (events.Dequeue queue) = ⊤
FitsLater (events.ShowStatus id) = ⊤
FitsLater (events.GetRow table key) = ⊤
FitsLater events.Nothing = ⊤
