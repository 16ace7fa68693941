use Rattle.std.proofs.Common.{◌≡◌, ◌+◌, List, Bool, true, false, ap, ◌∙◌, sym, subst}
use Rattle.std.specs.Prelude.{IsTrue, ◌↔◌}
use Rattle.r3_rows.specs.declared.rows.Key.{Key}
use Rattle.r3_rows.specs.declared.rows.Cell.{Cell}
use Rattle.r3_entry.specs.Formed.{Follows, IsProgramFirst}
use Rattle.r3_chain.specs.Versions.{Versions}
use Rattle.r3_formed.specs.Past.{all_installed}
use Rattle.r3_formed.specs.Adding.{IsWithin, MayAllStand}
use Rattle.r3_formed.proofs.Writes.{Write}
use Rattle.r3_formed.proofs.RuleLaws.{stands_on}
use Rattle.r3_formed.proofs.AddLaws.{ReadsAre, moved, truth}
use Rattle.r3_formed.proofs.adding.move_in.Goals as goal
use Rattle.r3_formed.proofs.adding.move_in.Goals.{then-is_program_first, else-is_program_first, then-is_known, else-is_known}

pub returns-after-is_known-clause-follows : goal.returns-after-is_known-clause-follows
returns-after-is_known-clause-follows c = λ h same stand.
    let es : Versions Key Cell = c.args.chains.now.versions in
    let known : IsTrue c.if-is_program_first.is_known ↔ (IsProgramFirst h c.args.entry × IsWithin c.args.count c.args.entry) = elim c.if-is_program_first.branch [
      | then-is_program_first w ↦ subst (λ (b : Bool). IsTrue b ↔ (IsProgramFirst h c.args.entry × IsWithin c.args.count c.args.entry)) (sym w.is_known-is)
          (λ holds. ((c.is_program_first.ensures h same).0 w.if-is_program_first.true, w.is_within-is_known.ensures.0 holds), λ p. w.is_within-is_known.ensures.1 p.1)
      | else-is_program_first w ↦ subst (λ (b : Bool). IsTrue b ↔ (IsProgramFirst h c.args.entry × IsWithin c.args.count c.args.entry)) (sym w.is_known-is)
          (λ holds. let no : false ≡ true = sym w.if-is_program_first.false ∙ holds in absurd cc, λ p. (c.is_program_first.ensures h same).1 p.0)
    ] in
    let may : IsTrue c.in-Ok.may ↔ (ReadsAre es c.args.entry × MayAllStand (c.args.count + 1) c.args.entry.snap c.args.entry.writes es) =
    subst (λ (ws : List Write). IsTrue c.in-Ok.may ↔ (ReadsAre es c.args.entry × MayAllStand (c.args.count + 1) c.args.entry.snap ws es)) c.into_list.ensures.items c.in-Ok.ensures.may in
    let both = moved es h c.args.entry c.args.count c.if-is_program_first.is_known c.in-Ok.may same stand (truth _ c.into_list.ensures.sorted) known may in
    elim c.if-is_known.branch [
      | then-is_known w ↦ subst (λ (b : Bool). IsTrue b ↔ Follows h c.args.entry) (sym w.result-is) (λ holds. both.0 w.if-is_known.true holds, λ follows. (both.1 follows).1)
      | else-is_known w ↦ subst (λ (b : Bool). IsTrue b ↔ Follows h c.args.entry) (sym w.result-is) (λ holds. let no : false ≡ true = sym w.if-is_known.false ∙ holds in absurd cc, λ follows. (both.1 follows).0)
    ]

pub returns-after-is_known-clause-versions : goal.returns-after-is_known-clause-versions
returns-after-is_known-clause-versions c = λ h same stand holds. elim c.if-is_known.branch [
  | then-is_known w ↦
      let may : IsTrue c.in-Ok.may = sym w.result-is ∙ holds in
      stands_on c.args.chains.now.versions c.add_parts.new.chains.versions h c.args.entry c.args.count same stand
      (c.in-Ok.ensures.versions may ∙ ap (λ (ws : List Write). all_installed (c.args.count + 1) ws c.args.chains.now.versions) c.into_list.ensures.items)
  | else-is_known w ↦ let no : false ≡ true = sym w.if-is_known.false ∙ (sym w.result-is ∙ holds) in absurd cc
]
