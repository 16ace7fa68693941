use Rattle.std.proofs.Common.{sym, ◌∙◌}
use Rattle.sys_flow.specs.declared.command.Refusal.TheVariants.{UnknownTable}
use Rattle.r3_model.specs.Event.{GetRow, Refused}
use Rattle.r3_model.specs.Script as script
use Rattle.r3_exec.specs.Runs.{language}
use Rattle.r3_session.proofs.Looking.{table-unknown, told-by}
use Rattle.r3_session.proofs.looks.get.Goals as goal

pub returns-else-has_table : goal.returns-else-has_table
returns-else-has_table c = λ st stands.
    let P = language c.args.exec.now in
    told-by (λ v. v.items) c.reply_text.result P st (script.Does (GetRow c.args.table.now c.args.key.now)) (Refused UnknownTable)
    (table-unknown P st c.args.table.now c.args.key.now (sym c.has_table.ensures ∙ c.if-has_table.false)) c.reply_text.ensures
