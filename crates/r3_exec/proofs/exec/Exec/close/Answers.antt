use Rattle.std.proofs.Common.{◌≡◌, not, refl, sym, ap, ◌∙◌, subst}
use Rattle.std.specs.Prelude.{T, bytes_eq}
use Rattle.std.specs.FinMap.Entries.{is_sorted, is_sorted-where_key}
use Rattle.r3_rows.specs.Keys.{bytes_cmp}
use Rattle.r3_model.specs.Language.{Text}
use Rattle.r3_model.specs.Machine.{Begun, closed}
use Rattle.r3_chain.proofs.PutLemmas.{found_is}
use Rattle.r3_exec.specs.Runs.{ArePinned}
use Rattle.r3_exec.proofs.Begun.{removed, none_closed}
use Rattle.r3_exec.proofs.Closing.{open_pinned, released}
use Rattle.r3_exec.proofs.Discarding.{closes_now, entries_stay}
use Rattle.r3_exec.proofs.exec.Exec.close.Goals as goal

pub release-requires : goal.release-requires
release-requires c =
    let x = c.requires in
    open_pinned c.args.self.now x.0 x.1 c.args.id.now c.in-Some.snap x.2 c.in-Some.ensures.value

pub vacuum_when_due-requires : goal.vacuum_when_due-requires
vacuum_when_due-requires c =
    let x = c.requires in (
      x.0,
      closed c.args.id.now x.1,
      released c.args.self.now _ x.0 x.1 c.args.id.now c.in-Some.snap x.2 c.in-Some.ensures.value refl c.in-Some.ensures.entries
          (c.release.ensures.keeps x.0 x.2.store) c.release.ensures.one,
    )

pub returns-in-Some-clause-closed : goal.returns-in-Some-clause-closed
returns-in-Some-clause-closed c = λ h begun keeps.
    c.vacuum_when_due.ensures.keeps h (closed c.args.id.now begun)
    (released c.args.self.now _ h begun c.args.id.now c.in-Some.snap keeps c.in-Some.ensures.value refl c.in-Some.ensures.entries
    (c.release.ensures.keeps h keeps.store) c.release.ensures.one)

pub returns-in-None-clause-closed : goal.returns-in-None-clause-closed
returns-in-None-clause-closed c = λ h begun keeps.
    let id = c.args.id.now in
    let es = c.args.self.now.begun.entries in
    let none = sym (found_is bytes_cmp id es) ∙ sym c.in-None.ensures.value in
    let sorted = subst (λ (x : Begun). T (is_sorted bytes_cmp x)) (sym keeps.snapshots) keeps.in_order in
    let stays : closed id begun ≡ begun = ap (λ (x : Begun). closed id x) (sym keeps.snapshots) ∙ sym (removed id es sorted) ∙ none_closed id es sorted none ∙ keeps.snapshots in
    record {
      store = keeps.store;
      snapshots = c.in-None.ensures.entries ∙ removed id es sorted ∙ ap (λ (x : Begun). closed id x) keeps.snapshots;
      in_order = is_sorted-where_key bytes_cmp (λ (i : Text). not (bytes_eq i id)) begun keeps.in_order;
      pins = subst (λ (x : Begun). ArePinned c.args.self.now.store.pins x) (sym stays) keeps.pins;
      declared = keeps.declared;
      queues = keeps.queues;
      pending = keeps.pending;
      vacuumed = keeps.vacuumed;
    }

pub returns-in-Some-clause-discards : goal.returns-in-Some-clause-discards
returns-in-Some-clause-discards c =
    let x = c.requires in
    let stands = c.release.ensures.keeps x.0 x.2.store in
    closes_now c.args.self.now _ _ x.0 refl stands c.vacuum_when_due.ensures.gate (c.vacuum_when_due.ensures.due x.0 stands) (c.vacuum_when_due.ensures.not_due x.0 stands)

pub returns-in-None-clause-discards : goal.returns-in-None-clause-discards
returns-in-None-clause-discards c =
    let x = c.requires in
    let id = c.args.id.now in
    let es = c.args.self.now.begun.entries in
    let none = sym (found_is bytes_cmp id es) ∙ sym c.in-None.ensures.value in
    let sorted = subst (λ (b : Begun). T (is_sorted bytes_cmp b)) (sym x.2.snapshots) x.2.in_order in
    entries_stay c.args.self.now _ (c.in-None.ensures.entries ∙ none_closed id es sorted none) refl
