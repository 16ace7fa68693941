-- How the code holds the state, and what a step of the parser promises.
use Rattle.std.specs.Prelude.{◌<◌, List, Option, Bool, true, false}
use Rattle.fn_grammar.specs.declared.symbol.Symbol.{Symbol}
use Rattle.fn_syntax.specs.declared.parser.Parser.{Parser}
use Rattle.fn_syntax.specs.declared.trees.Trees.{Trees as Held}
use Rattle.fn_grammar.specs.Trees.{Trees}
use Rattle.fn_grammar.specs.Letters.{Letter}
use Rattle.fn_grammar.specs.Derivation.{State}
use Rattle.fn_grammar.specs.Steps.{AllTame, Same, Went, Refuses, effort}

abbrev pub trees_of : Held → Trees
trees_of t =
    record {
      names = t.names;
      lists = t.lists;
      bounds = t.bounds;
      exprs = t.exprs;
      groups = t.groups;
      asks = t.asks;
      rights = t.rights;
      blocks = t.blocks;
      items = t.items.items;
    }

abbrev pub state_of : Parser → State
state_of p = record { trees = trees_of p.trees; depth = p.depth; used = p.used }

-- The symbol was taken apart, and the same is ahead; or nothing is.
pub record IsSpread (next : Option Letter) (todo : List Symbol) (v : State) (new : Parser) : Type 0 where
  pub same : Same next todo v new.todo (state_of new)
  pub tame : AllTame new.todo
  pub less : effort new.todo < effort todo

abbrev pub Spreads : Bool → Option Letter → List Symbol → State → Parser → Type 0
Spreads true next todo v new = IsSpread next todo v new
Spreads false next todo v new = Refuses next todo v

-- The next letter was read, or at the end all is read; or that can't be.
pub record IsTaken (next : Option Letter) (todo : List Symbol) (v : State) (new : Parser) : Type 0 where
  pub went : Went next todo v new.todo (state_of new)
  pub tame : AllTame new.todo

abbrev pub Takes : Bool → Option Letter → List Symbol → State → Parser → Type 0
Takes true next todo v new = IsTaken next todo v new
Takes false next todo v new = Refuses next todo v
