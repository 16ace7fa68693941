use Rattle.std.proofs.Common.{◌≡◌, Some, None, refl, ap, subst}
use Rattle.fn_grammar.specs.Steps.{chosen}
use Rattle.fn_grammar.specs.Written.{seen}
use Rattle.fn_syntax.specs.Machine.{state_of}
use Rattle.fn_syntax.proofs.MachineLemmas.{part_spreads, part_stops, make_spreads, begin_spreads, end_spreads}
use Rattle.fn_syntax.proofs.parser.Parser.spread.Goals as goal

pub returns-in-None : goal.returns-in-None
returns-in-None c =
    let no = subst (λ rs. chosen rs (seen c.args.next) ≡ None) c.rules.ensures c.in-None.ensures in
    part_stops (seen c.args.next) c.args.symbol c.in-Part.part c.args.self.now.todo (state_of c.args.self.now) c.in-Part.is c.requires.tame no

pub returns-in_ok-push_rule-in-Some : goal.returns-in_ok-push_rule-in-Some
returns-in_ok-push_rule-in-Some c =
    let yes = subst (λ rs. chosen rs (seen c.args.next) ≡ Some c.in-Some.rule.now) c.rules.ensures c.in-Some.ensures in
    part_spreads (seen c.args.next) c.args.symbol c.in-Part.part c.in-Some.rule.now c.args.self.now.todo (state_of c.args.self.now) _ c.in-Part.is c.requires.tame yes c.in_ok-push_rule-in-Some.ensures refl

pub returns-in_ok-make-in-Make : goal.returns-in_ok-make-in-Make
returns-in_ok-make-in-Make c =
    let v = state_of c.args.self.now in
    make_spreads (seen c.args.next) c.args.symbol c.in-Make.action c.args.self.now.todo v _ c.in-Make.is c.requires.tame refl (ap (λ t. record v { trees = t }) c.in_ok-make-in-Make.ensures)

pub returns-in-Begin : goal.returns-in-Begin
returns-in-Begin c = begin_spreads (seen c.args.next) c.args.symbol c.args.self.now.todo (state_of c.args.self.now) _ c.in-Begin.is c.requires.tame refl refl

pub returns-in-End : goal.returns-in-End
returns-in-End c = end_spreads (seen c.args.next) c.args.symbol c.args.self.now.todo (state_of c.args.self.now) _ c.in-End.is c.requires.tame refl refl
