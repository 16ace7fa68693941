use Rattle.std.proofs.Common.{ℕ, List, refl, sym, ap, ◌∙◌, subst}
use Rattle.std.specs.Map.{keys_of}
use Rattle.std.specs.List.Sorted.{IsStrictlySortedBy}
use Rattle.std.specs.FinMap.Entries.{is_sorted-put}
use Rattle.std.proofs.lemmas.Cmp.{nat_list_cmp_total}
use Rattle.r3_rows.specs.Keys.{bytes_cmp}
use Rattle.r3_model.specs.Language.{Text}
use Rattle.r3_model.specs.Machine.{Begun, opened}
use Rattle.r3_chain.proofs.PutLemmas.{insert_put}
use Rattle.r3_exec.specs.Runs.{ArePinned}
use Rattle.r3_exec.proofs.Begun.{one_more}
use Rattle.r3_exec.proofs.Discarding.{insert_grows, none_closes}
use Rattle.r3_exec.proofs.exec.Exec.open.Goals as goal

pub returns-clause-opened : goal.returns-clause-opened
returns-clause-opened c = λ h begun keeps none.
    let id = c.args.id.now in
    let es = c.args.self.now.begun.entries in
    let snap = c.len-snap.result in
    let sorted = subst (λ (x : Begun). IsStrictlySortedBy bytes_cmp (keys_of x)) keeps.snapshots c.insert.ensures.was_ordered in (
      c.len-snap.ensures h keeps.store,
      record {
        store = c.hold.ensures.keeps h keeps.store;
        snapshots = c.in-Ok.ensures.entries ∙ insert_put bytes_cmp c.in_ok-id.id snap es
            ∙ ap (λ (i : Text). opened i snap es) c.in_ok-id.ensures ∙ ap (λ (x : Begun). opened id snap x) keeps.snapshots;
        in_order = is_sorted-put bytes_cmp nat_list_cmp_total id snap begun keeps.in_order;
        pins = subst (λ (ps : List ℕ). ArePinned ps (opened id snap begun)) (sym c.in_ok-hold.ensures.ok) (one_more c.args.self.now.store.pins begun id snap sorted none keeps.pins);
        declared = keeps.declared;
        queues = keeps.queues;
        pending = keeps.pending;
        vacuumed = keeps.vacuumed;
      },
    )

pub returns-clause-discards : goal.returns-clause-discards
returns-clause-discards c =
    none_closes c.args.self.now _ (insert_grows c.in_ok-id.id c.len-snap.result c.args.self.now.begun.entries _ c.in-Ok.ensures.entries) refl
