use Rattle.std.proofs.Common.{ℕ, List, None, [], sym, subst}
use Rattle.std.specs.Prelude.{◌∷◌}
use Rattle.fn_tree.specs.declared.program.Item.{Item}
use Rattle.r3_model.specs.Functions.{language_of}
use Rattle.r3_model.specs.Event.{Turn}
use Rattle.r3_model.specs.Machine.{Out, opened}
use Rattle.r3_model.specs.Valid.{IsValid}
use Rattle.r3_exec.specs.Runs.{Keeps, language}
use Rattle.r3_exec.specs.Turning.{begun_at}
use Rattle.r3_exec.proofs.Txns.{begins}
use Rattle.r3_exec.proofs.exec.Exec.begin.Goals as goal

pub returns-in-Ok-clause-begun : goal.returns-in-Ok-clause-begun
returns-in-Ok-clause-begun c = λ st q stands first.
    let P = language c.args.self.now in
    let id = c.args.id.now in
    let items = c.args.self.now.program in
    let lawful = c.programs_are_lawful.ensures items in
    let limited = c.programs_are_limited.ensures items c.program.ensures.sound c.holds_values.ensures in
    let o = c.in-Ok.ensures.opened st.history st.begun stands.keeps first.none in
    let then : IsValid P (begun_at id st) = subst (λ (x : Out). IsValid P x.state) (begins P st id q first.comes first.none)
    (c.keeps_valid.ensures.keeps P st (Turn id) (None ∷ []) lawful limited stands.valid (tt {0}) (tt {0}, tt {0})) in (
      o.0,
      record {
        valid = subst (λ (is : List Item). IsValid (language_of is) (begun_at id st)) (sym c.open.ensures.program) then;
        keeps = subst (λ (s : ℕ). Keeps c.open.new.self st.history (opened id s st.begun)) o.0 o.1;
      },
    )
