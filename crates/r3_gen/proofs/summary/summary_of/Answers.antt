use Rattle.std.proofs.Common.{◌∙◌, rules, FitsSigned, to_z-of_z, sym, ap, subst}
use Rattle.std.specs.Int.{w128}
use Rattle.serde_json.specs.Data.{Data}
use Rattle.r3_json.specs.Lines.{line_of}
use Rattle.r3_exec.specs.Runs.{Stands}
use Rattle.r3_exec.specs.declared.exec.Exec.{Exec}
use Rattle.r3_gen.proofs.Generating.{if-ok}
use Rattle.r3_gen.proofs.Counting.{summary-is}
use Rattle.r3_gen.proofs.summary.summary_of.Goals as goal

pub returns : goal.returns
returns c = λ st s.
    let here : Stands c.exec-exec.result.now st = subst (λ (e : Exec). Stands e st) (sym c.exec-exec.ensures) s in
    let fits : FitsSigned w128 c.in_ok-sum.sum = search rules in
    if-ok c.summary_text.result _ _
    (λ text is. is ∙ ap (λ (d : Data). line_of d)
    (summary-is st.history c.args.count c.len.result c.in_ok-success.success _
    (c.len.ensures st here) (c.in_ok-success.ensures st here) (to_z-of_z fits ∙ c.in_ok-sum.ensures st here)))
    c.summary_text.ensures
