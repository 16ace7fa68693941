use Rattle.std.proofs.Common.{refl}
use Rattle.fn_grammar.specs.Written.{seen}
use Rattle.fn_syntax.specs.Machine.{state_of}
use Rattle.fn_syntax.proofs.MachineLemmas.{step_done, step_take}
use Rattle.fn_syntax.proofs.parser.Parser.step.Goals as goal

pub returns-in-None : goal.returns-in-None
returns-in-None c = step_done c.args.next c.is_none.result c.args.self.now.todo c.loop-next.self.todo (state_of c.args.self.now) (state_of c.loop-next.self) _ c.is_none.ensures c.loop-next.invariant.same c.in-None.ensures.0 c.in-None.ensures.1 refl

pub returns-then-is_terminal : goal.returns-then-is_terminal
returns-then-is_terminal c = step_take c.take.result (seen c.args.next) c.args.self.now.todo c.loop-next.self.todo c.in-Some.symbol c.pop.new.self (state_of c.args.self.now) (state_of c.loop-next.self) _ c.in-Some.ensures c.loop-next.invariant.same c.take.ensures
