-- Every history that is reached from the empty one is formed.
use Rattle.std.proofs.Common.{ℕ, zero, suc, List, [], ◌∷◌, length, take, drop, Option, sym, subst, take-append-drop}
use Rattle.std.specs.List.{AllByRecursion}
use Rattle.r3_value.specs.declared.value.Outcome.{Outcome}
use Rattle.r3_entry.specs.declared.entry.Entry.{Entry}
use Rattle.r3_entry.specs.Formed.{IsFormed}
use Rattle.r3_entry.specs.Limits.{IsOutcome, IfThere}
use Rattle.r3_entry.proofs.Prefixes.{formed-front}
use Rattle.r3_model.specs.Language.{Language}
use Rattle.r3_model.specs.Event.{Event}
use Rattle.r3_model.specs.Machine.{step, first_of}
use Rattle.r3_model.specs.Run.{Trail, from_state, restarted, next, run}
use Rattle.r3_model.specs.Valid.{AreOpen}
use Rattle.r3_model.specs.Lawful.{IsLawful, IsLimited}
use Rattle.r3_laws.specs.OfHistories.{AllFit, Reached, at_first, after_a_run, HeardWithin}
use Rattle.r3_laws.proofs.KeepsOpen.{stepped-open}
use Rattle.r3_laws.proofs.KeepsValid.{stays-formed, first-fits, empty-formed}
use Rattle.r3_laws.proofs.Reaches.{restarted-open}

abbrev AreHeard : List (Option Outcome) → Type 0
AreHeard answers = AllByRecursion (IfThere IsOutcome) answers

-- what is left of the answers
left-heard : (n : ℕ) (answers : List (Option Outcome)) → AreHeard answers → AreHeard (drop n answers)
left-heard zero answers all = all
left-heard (suc n) [] all = tt
left-heard (suc n) (a ∷ answers) all = left-heard n answers all.1

module _ (P : Language) (lawful : IsLawful P) (limited : IsLimited P) where
  run-formed : (t : Trail) (evs : List Event) → AreOpen P t.state → IsFormed t.state.history → AreHeard t.answers → AllFit P t evs → IsFormed (run P t evs).state.history
  run-formed t [] all formed heard fits = formed
  run-formed t (ev ∷ evs) all formed heard fits =
      run-formed (next P t ev) evs (stepped-open P t.state all ev (first_of t.answers))
      (stays-formed P lawful limited t.state ev (first_of t.answers) all fits.0 (first-fits t.answers heard) formed)
      (left-heard (length (step P t.state ev t.answers).calls) t.answers heard) fits.1

  pub reached-formed : (h : List Entry) (reached : Reached P h) → HeardWithin reached → IsFormed h
  reached-formed h at_first heard = empty-formed
  reached-formed g (after_a_run {h} k evs answers reached fits) heard =
      let last : List Entry = (run P (from_state (restarted h) answers) evs).state.history in
      let formed : IsFormed last = run-formed (from_state (restarted h) answers) evs (restarted-open P h) (reached-formed h reached heard.1) heard.0 fits in
      formed-front (take k last) (drop k last) (subst IsFormed (sym (take-append-drop k last)) formed)
