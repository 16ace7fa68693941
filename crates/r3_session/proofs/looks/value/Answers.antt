use Rattle.std.proofs.Common.{Some, None, sym, ap, ◌∙◌}
use Rattle.std.specs.Option.{option_copied}
use Rattle.r3_model.specs.Event.{Absent, GetRow, Value}
use Rattle.r3_model.specs.Script as script
use Rattle.r3_exec.specs.Runs.{language}
use Rattle.r3_session.proofs.Looking.{row-is, told-by}
use Rattle.r3_session.proofs.looks.value.Goals as goal

pub returns-in-Some : goal.returns-in-Some
returns-in-Some c = λ st stands.
    let P = language c.args.exec.now in
    told-by (λ v. v.items) c.reply_text.result P st (script.Does (GetRow c.args.table.now c.args.key.now)) (Value c.in-Some.value.now)
    (row-is P st c.args.table.now c.args.key.now (Some c.in-Some.value.now) c.requires.declared (ap (λ o. option_copied o) (sym c.in-Some.is) ∙ c.in_ok-value.ensures st stands)) c.reply_text.ensures

pub returns-in-None : goal.returns-in-None
returns-in-None c = λ st stands.
    let P = language c.args.exec.now in
    told-by (λ v. v.items) c.reply_text-in-None.result P st (script.Does (GetRow c.args.table.now c.args.key.now)) Absent
    (row-is P st c.args.table.now c.args.key.now None c.requires.declared (ap (λ o. option_copied o) (sym c.in-None.is) ∙ c.in_ok-value.ensures st stands)) c.reply_text-in-None.ensures
