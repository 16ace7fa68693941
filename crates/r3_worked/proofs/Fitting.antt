-- Events that fit a history that isn't empty.
use Rattle.std.proofs.Common.{◌≢◌, List, []}
use Rattle.r3_entry.specs.declared.entry.Entry.{Entry}
use Rattle.r3_model.specs.Fits.{Fits}
use Rattle.r3_plain.specs.Words.{event_of}
use Rattle.r3_plain.specs.declared.event.Event.{Event}
use Rattle.r3_plain.specs.declared.event.Event.TheVariants as events
use Rattle.r3_worked.specs.Later.{FitsLater}

pub fits_later : (h : List Entry) (e : Event) → h ≢ [] → FitsLater e → Fits h (event_of e)
fits_later h (events.Append text) some none = absurd none
fits_later h (events.Run command) some fit = (some, fit)
fits_later h (events.Turn id) some fit = fit
fits_later h (events.Dequeue queue) some fit = some
fits_later h (events.ShowStatus id) some fit = fit
fits_later h (events.GetRow table key) some fit = fit
fits_later h events.Nothing some fit = fit
