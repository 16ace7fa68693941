use Rattle.std.proofs.Common.{◌≡◌, ℕ, subst, sym, ap, Ok, Err}
use Rattle.std.proofs.lemmas.Result.{err_from_is_err_and}
use Rattle.r3_value.specs.declared.value.Val.{Val}
use Rattle.fn_tree.specs.declared.look.Look.TheVariants as look
use Rattle.fn_tree.specs.Ends.{At, Ends, Goes}
use Rattle.fn_tree.specs.Looks.{with_look}
use Rattle.fn_tree.specs.Values.{or_null}
use Rattle.fn_tree.specs.Writes.{Log, Never}
use Rattle.fn_walk.specs.Runs.{RunsAs, place_at}
use Rattle.fn_txn.proofs.JournalLemmas.{nothing, look_went, look_broke}
use Rattle.fn_txn.proofs.on_view.read.Goals as goal

pub returns-in_err-note : goal.returns-in_err-note
returns-in_err-note g c = λ env units cost.
    let p = err_from_is_err_and c.from_residual-in_err-note.result c.from_residual-in_err-note.ensures.1 in
    let at = place_at env c.args.journal.now units cost in
    let after = place_at env c.note.new.journal units cost in
    let go : At Log → Ends Never Log Val = λ x. Goes (or_null ((g.M.View.versions c.args.view.now).cell c.args.row.table c.args.row.key)) x in
    let P : ℕ → Type 0 = λ n. RunsAs nothing (Err c.in_err-note.field-0.0) (with_look (look.At c.args.row.table c.args.row.key n) at go) after in
    let whole : P ((g.M.View.versions c.args.view.now).version c.args.row.table c.args.row.key) = subst P c.in_ok-v.ensures.1 (look_broke (look.At c.args.row.table c.args.row.key c.in_ok-v.version) c.in_err-note.field-0.0 at after go (c.in_err-note.ensures env units cost)) in
    rw (p.1, p.2) whole

pub returns : goal.returns
returns g c = λ env units cost.
    let at = place_at env c.args.journal.now units cost in
    let after = place_at env c.note.new.journal units cost in
    let go : At Log → Ends Never Log Val = λ x. Goes (or_null ((g.M.View.versions c.args.view.now).cell c.args.row.table c.args.row.key)) x in
    let P : ℕ → Type 0 = λ n. RunsAs nothing (Ok c.in_ok-v.v) (with_look (look.At c.args.row.table c.args.row.key n) at go) after in
    let E : Val → Ends Never Log Val = λ v. Goes v after in
    subst P c.in_ok-v.ensures.1 (look_went (look.At c.args.row.table c.args.row.key c.in_ok-v.version) (Ok c.in_ok-v.v) at after after go (c.in_ok-note.ensures env units cost) (ap E (sym c.in_ok-v.ensures.0)))
