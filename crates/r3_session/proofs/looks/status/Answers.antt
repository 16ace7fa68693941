use Rattle.std.proofs.Common.{Some, None, sym, ap, ◌∙◌}
use Rattle.std.specs.Option.{option_copied}
use Rattle.sys_flow.specs.declared.command.Refusal.TheVariants.{UnknownId}
use Rattle.r3_model.specs.Event.{Refused, Row, ShowStatus}
use Rattle.r3_model.specs.Script as script
use Rattle.r3_exec.specs.Runs.{language}
use Rattle.r3_session.proofs.Looking.{status-is, told-by}
use Rattle.r3_session.proofs.looks.status.Goals as goal

pub returns-in-Some : goal.returns-in-Some
returns-in-Some c = λ st stands.
    let P = language c.args.exec.now in
    told-by (λ v. v.items) c.reply_text.result P st (script.Does (ShowStatus c.args.id.now)) (Row c.args.id.now c.in-Some.row.now)
    (status-is P st c.args.id.now (Some c.in-Some.row.now) (ap (λ o. option_copied o) (sym c.in-Some.is) ∙ c.in_ok-row.ensures st stands)) c.reply_text.ensures

pub returns-in-None : goal.returns-in-None
returns-in-None c = λ st stands.
    let P = language c.args.exec.now in
    told-by (λ v. v.items) c.reply_text-in-None.result P st (script.Does (ShowStatus c.args.id.now)) (Refused UnknownId)
    (status-is P st c.args.id.now None (ap (λ o. option_copied o) (sym c.in-None.is) ∙ c.in_ok-row.ensures st stands)) c.reply_text-in-None.ensures
