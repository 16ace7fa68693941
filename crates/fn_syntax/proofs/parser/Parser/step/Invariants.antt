use Rattle.fn_grammar.specs.Steps.{AllTame, Same, effort}
use Rattle.fn_grammar.specs.Written.{seen}
use Rattle.fn_syntax.specs.Machine.{state_of}
use Rattle.fn_syntax.proofs.parser.Parser.step.Given as goal

abbrev pub invariant-loop-next : goal.invariant-loop-next
invariant-loop-next l = record {
  tame : AllTame l.self.todo;
  same : Same (seen l.next) l.fn.self.todo (state_of l.fn.self) l.self.todo (state_of l.self);
}

abbrev pub decreases-loop-next : goal.decreases-loop-next
decreases-loop-next l = effort l.self.todo
