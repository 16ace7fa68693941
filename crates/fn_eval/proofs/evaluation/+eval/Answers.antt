use Rattle.std.proofs.Common.{rules, arith}
use Rattle.fn_tree.specs.Expression.{calls_of}
use Rattle.fn_eval.proofs.EndsLemmas.{list_equation, helper_equation}
use Rattle.fn_eval.proofs.evaluation.+eval.Goals as goal

pub evaluate-returns-in_err-vs-in-List : goal.evaluate-returns-in_err-vs-in-List
evaluate-returns-in_err-vs-in-List g t c =
    let e = list_equation (calls_of c.args.items.now) c.args.e.now c.args.env.now c.args.units c.args.steps.now c.tick.new.self c.tick.ensures c.in-List.es c.in-List.is in grind arith

pub evaluate-returns-in_ok-list_or_size-in-List : goal.evaluate-returns-in_ok-list_or_size-in-List
evaluate-returns-in_ok-list_or_size-in-List g t c =
    let e = list_equation (calls_of c.args.items.now) c.args.e.now c.args.env.now c.args.units c.args.steps.now c.tick.new.self c.tick.ensures c.in-List.es c.in-List.is in grind arith

pub evaluate-returns-in_err-vs-in-Helper : goal.evaluate-returns-in_err-vs-in-Helper
evaluate-returns-in_err-vs-in-Helper g t c =
    let e = helper_equation (calls_of c.args.items.now) c.args.e.now c.args.env.now c.args.units c.args.steps.now c.tick.new.self c.tick.ensures c.in-Helper.name c.in-Helper.args c.in-Helper.is in search rules

pub evaluate-returns-in_ok-vs-in-Helper : goal.evaluate-returns-in_ok-vs-in-Helper
evaluate-returns-in_ok-vs-in-Helper g t c =
    let e = helper_equation (calls_of c.args.items.now) c.args.e.now c.args.env.now c.args.units c.args.steps.now c.tick.new.self c.tick.ensures c.in-Helper.name c.in-Helper.args c.in-Helper.is in search rules
