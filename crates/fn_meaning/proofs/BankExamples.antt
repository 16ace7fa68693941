-- A whole program that is sound, and runs of it.
use Rattle.std.proofs.Common.{false, ◌≡◌, ℕ, List, [], ◌∷◌, Some, None, refl}
use Rattle.std.specs.Prelude.{codes, pos, if◌then◌else◌}
use Rattle.std.specs.Str.{bytes_eq}
use Rattle.r3_value.specs.declared.value.Val.TheVariants as val
use Rattle.r3_value.specs.declared.value.Outcome.TheVariants as outcome
use Rattle.r3_value.specs.View.{items_of}
use Rattle.fn_tree.specs.declared.stmt.Ask.TheVariants as ask
use Rattle.fn_tree.specs.declared.stmt.Rhs.TheVariants as rhs
use Rattle.fn_tree.specs.declared.look.Look.TheVariants as look
use Rattle.fn_tree.specs.declared.flow.AskKind.TheVariants as kind
use Rattle.fn_tree.specs.declared.flow.FlowEnd.TheVariants as flow
use Rattle.fn_tree.specs.declared.program.Item.{Item}
use Rattle.fn_tree.specs.declared.program.Item.TheVariants as item
use Rattle.fn_tree.specs.Arithmetic.{sum, difference}
use Rattle.fn_tree.specs.Sequences.{list_or_size}
use Rattle.fn_tree.specs.Soundness.{IsSound}
use Rattle.fn_tree.specs.Transaction.{Versions, txn_meaning}
use Rattle.fn_tree.specs.Flow.{flow_meaning}
use Rattle.fn_meaning.proofs.Words.{num, quoted, true_, name, add, sub, lt, join, str, let_, set_, do_, put_, if_, while_, try_, return_, fail_}
use Rattle.fn_meaning.proofs.ExpressionLemmas.{evaluated_roll, expr_is_sound_roll}
use Rattle.fn_meaning.proofs.StatementLemmas.{acted_roll, binds_roll, names_roll}

abbrev a : List ℕ
a = codes "a"

abbrev b : List ℕ
b = codes "b"

abbrev n : List ℕ
n = codes "n"

abbrev x : List ℕ
x = codes "x"

abbrev y : List ℕ
y = codes "y"

abbrev r : List ℕ
r = codes "r"

abbrev acct : List ℕ
acct = codes "acct"

abbrev pay : Item
pay = item.Txn false (codes "pay") (a ∷ b ∷ n ∷ [])
    (let_ x (rhs.Get acct (name a)) ∷ put_ acct (name a) (sub (name x) (name n)) ∷ let_ y (rhs.Get acct (name b)) ∷ put_ acct (name b) (add (name y) (name n)) ∷ return_ (name n) ∷ [])

abbrev take : Item
take = item.Txn false (codes "take") (a ∷ b ∷ n ∷ [])
    (let_ x (rhs.Get acct (name a)) ∷ let_ y (rhs.Get acct (name b)) ∷ if_ (lt (add (name x) (name y)) (name n)) (fail_ (quoted (codes "short")) ∷ []) None
    ∷ put_ acct (name a) (sub (name x) (name n)) ∷ return_ (sub (name x) (name n)) ∷ [])

abbrev fill : Item
fill = item.Txn false (codes "fill") (codes "k" ∷ [])
    (let_ (codes "i") (rhs.Plain (num 0)) ∷ while_ (lt (name (codes "i")) (name (codes "k"))) (put_ acct (join (quoted (codes "k")) (str (name (codes "i")))) (name (codes "i")) ∷ set_ (codes "i") (rhs.Plain (add (name (codes "i")) (num 1))) ∷ []) ∷ return_ (name (codes "k")) ∷ [])

abbrev calls : List ℕ → List ℕ → Item
calls f g = item.Flow f (a ∷ b ∷ n ∷ []) (let_ r (rhs.Ask (ask.Call g (name a ∷ name b ∷ name n ∷ []))) ∷ return_ (name r) ∷ [])

abbrev bank : List Item
bank =
    item.Table acct ∷ item.Queue (codes "mail") 1 ∷ item.Outside (codes "notify") (codes "who" ∷ n ∷ []) ∷ pay ∷ take ∷ fill
    ∷ item.Flow (codes "move") (a ∷ b ∷ n ∷ []) (let_ r (rhs.Ask (ask.Call (codes "pay") (name a ∷ name b ∷ name n ∷ []))) ∷ do_ (ask.Call (codes "notify") (name b ∷ name r ∷ [])) ∷ return_ (name r) ∷ [])
    ∷ calls (codes "send") (codes "pay") ∷ calls (codes "draw") (codes "take")
    ∷ item.Flow (codes "fills") (codes "k" ∷ []) (let_ r (rhs.Ask (ask.Call (codes "fill") (name (codes "k") ∷ []))) ∷ return_ (name r) ∷ [])
    ∷ item.Flow (codes "both") (a ∷ b ∷ n ∷ []) (let_ (codes "c") (rhs.Ask (ask.Spawn (codes "send") (name a ∷ name b ∷ name n ∷ []))) ∷ let_ r (rhs.Ask (ask.Await (name (codes "c")))) ∷ return_ (name r) ∷ [])
    ∷ item.Flow (codes "wait") (codes "me" ∷ []) (let_ r (rhs.Ask (ask.Await (name (codes "me")))) ∷ return_ (name r) ∷ [])
    ∷ item.Flow (codes "odd") (codes "m" ∷ []) (try_ (let_ (codes "z") (rhs.Plain (add (num 9223372036854775807) (name (codes "m")))) ∷ []) (codes "w") (return_ (name (codes "w")) ∷ []) ∷ return_ (num 0) ∷ [])
    ∷ item.Flow (codes "spin") (codes "m" ∷ []) (try_ (while_ true_ [] ∷ []) (codes "w") (return_ (name (codes "w")) ∷ []) ∷ return_ (num 0) ∷ []) ∷ []

pub bank_is_sound : IsSound bank
bank_is_sound = record {
  distinct = refl;
  bodies = simp (expr_is_sound_roll, binds_roll);
  names = simp names_roll;
  few_params = refl;
}

-- a: 100 by entry 2, b: 50 by entry 3
abbrev base : Versions
base = record {
  cell = λ t k. if bytes_eq k a then Some (val.Int (pos 100)) else if bytes_eq k b then Some (val.Int (pos 50)) else None;
  version = λ t k. if bytes_eq k a then 2 else if bytes_eq k b then 3 else 0;
  keys = λ t lo hi. [];
}

pays : txn_meaning bank base (codes "pay") (val.Text b ∷ val.Text a ∷ val.Int (pos 30) ∷ []) ≡ Some (record {
  run = record {
    outcome = outcome.Value (val.Int (pos 30));
    reads = look.At acct b 3 ∷ look.At acct a 2 ∷ [];
    writes = (acct, a, Some (val.Int (pos 130))) ∷ (acct, b, Some (val.Int (pos 20))) ∷ [];
  };
  cost = 11;
})
unfolding sum difference
pays = simp (acted_roll, evaluated_roll)

asks_for_pay : flow_meaning bank (codes "move") (val.List (items_of (val.Text a ∷ val.Text b ∷ val.Int (pos 30) ∷ []))) [] ≡ Some (record {
  run = flow.Asks (record { n = 0; kind = kind.Txn; name = codes "pay"; args = val.List (items_of (val.Text a ∷ val.Text b ∷ val.Int (pos 30) ∷ [])) });
  cost = 3;
})
unfolding list_or_size
asks_for_pay = simp (acted_roll, evaluated_roll)

asks_for_child : flow_meaning bank (codes "both") (val.List (items_of (val.Text a ∷ val.Text b ∷ val.Int (pos 30) ∷ []))) [] ≡ Some (record {
  run = flow.Asks (record { n = 0; kind = kind.Child; name = codes "send"; args = val.List (items_of (val.Text a ∷ val.Text b ∷ val.Int (pos 30) ∷ [])) });
  cost = 3;
})
unfolding list_or_size
asks_for_child = simp (acted_roll, evaluated_roll)
