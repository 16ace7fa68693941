use Rattle.std.proofs.Common.{◌≡◌, subst, sym, ap, ◌∙◌, map, Ok, Err}
use Rattle.std.proofs.lemmas.Result.{err_from_is_err_and}
use Rattle.r3_value.specs.declared.value.Outcome.{Outcome}
use Rattle.r3_value.specs.declared.value.Val.{Val}
use Rattle.fn_tree.specs.declared.look.Look.{Look}
use Rattle.fn_tree.specs.Control.{taken}
use Rattle.fn_tree.specs.Ends.{At, Ends}
use Rattle.fn_tree.specs.Looks.{with_look}
use Rattle.fn_tree.specs.Sequences.{list_or_size}
use Rattle.fn_tree.specs.Transaction.{rows_at}
use Rattle.fn_tree.specs.Writes.{Log, Never, pair_value, rows_under}
use Rattle.fn_walk.specs.declared.broken.Break.TheVariants as broken
use Rattle.fn_walk.specs.Runs.{RunsAs, place_at}
use Rattle.fn_txn.proofs.JournalLemmas.{nothing, look_went, look_broke}
use Rattle.fn_txn.proofs.on_view.scanned.Goals as goal

pub returns-in_err-note : goal.returns-in_err-note
returns-in_err-note g c = λ env units cost.
    let p = err_from_is_err_and c.from_residual-in_err-note.result c.from_residual-in_err-note.ensures.1 in
    let at = place_at env c.args.journal.now units cost in
    let after = place_at env c.note.new.journal units cost in
    let go : At Log → Ends Never Log Val = taken (list_or_size (map pair_value (rows_under c.args.journal.now.writes c.args.table.now c.args.lo c.args.hi (rows_at (g.M.View.versions c.args.view.now) c.args.table.now c.args.lo c.args.hi)))) in
    let P : Look → Type 0 = λ l. RunsAs nothing (Err c.in_err-note.field-0.0) (with_look l at go) after in
    let whole = subst P c.in_ok-look.ensures.0 (look_broke c.in_ok-look.look c.in_err-note.field-0.0 at after go (c.in_err-note.ensures env units cost)) in
    rw (p.1, p.2) whole

pub returns-in-Value : goal.returns-in-Value
returns-in-Value g c = λ env units cost.
    let at = place_at env c.args.journal.now units cost in
    let after = place_at env c.note.new.journal units cost in
    let go : At Log → Ends Never Log Val = taken (list_or_size (map pair_value (rows_under c.args.journal.now.writes c.args.table.now c.args.lo c.args.hi (rows_at (g.M.View.versions c.args.view.now) c.args.table.now c.args.lo c.args.hi)))) in
    let P : Look → Type 0 = λ l. RunsAs nothing (Ok c.in-Value.v) (with_look l at go) after in
    let T : Outcome → Ends Never Log Val = λ o. taken o after in
    subst P c.in_ok-look.ensures.0 (look_went c.in_ok-look.look (Ok c.in-Value.v) at after after go (c.in_ok-note.ensures env units cost) (ap T (sym c.in_ok-look.ensures.1 ∙ c.in-Value.is)))

pub returns : goal.returns
returns g c = λ env units cost.
    let at = place_at env c.args.journal.now units cost in
    let after = place_at env c.note.new.journal units cost in
    let go : At Log → Ends Never Log Val = taken (list_or_size (map pair_value (rows_under c.args.journal.now.writes c.args.table.now c.args.lo c.args.hi (rows_at (g.M.View.versions c.args.view.now) c.args.table.now c.args.lo c.args.hi)))) in
    let P : Look → Type 0 = λ l. RunsAs {A = Val} nothing (Err (broken.Failed c.in-Failure.word)) (with_look l at go) after in
    let T : Outcome → Ends Never Log Val = λ o. taken o after in
    subst P c.in_ok-look.ensures.0 (look_went {A = Val} c.in_ok-look.look (Err (broken.Failed c.in-Failure.word)) at after after go (c.in_ok-note.ensures env units cost) (ap T (sym c.in_ok-look.ensures.1 ∙ c.in-Failure.is)))
