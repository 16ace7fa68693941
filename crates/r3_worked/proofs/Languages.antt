-- Worked cases of what the laws ask of a language: one that has it, and for each field one that breaks it.
use Rattle.std.proofs.Common.{◌≡◌, ℕ, ◌+◌, ◌≤◌, ◌<◌, Bool, true, false, List, [], ◌∷◌, length, replicate, Option, Some, None, refl, ap, arith, lit≤, lit<}
use Rattle.std.specs.Prelude.{codes}
use Rattle.r3_value.specs.declared.value.Val.{Val}
use Rattle.r3_value.specs.declared.value.Val.TheVariants.{Null, List as ListOf}
use Rattle.r3_value.specs.Value.{no_items}
use Rattle.r3_value.specs.declared.value.Outcome.TheVariants as outcomes
use Rattle.fn_tree.specs.declared.flow.Answer.{Answer}
use Rattle.fn_tree.specs.declared.flow.AskKind.TheVariants as asking
use Rattle.fn_tree.specs.declared.flow.FlowEnd.{FlowEnd}
use Rattle.fn_tree.specs.declared.flow.FlowEnd.TheVariants.{Done, Asks, Unexpected}
use Rattle.fn_tree.specs.declared.look.Look.TheVariants.{At}
use Rattle.fn_tree.specs.declared.look.TxnRun.{TxnRun}
use Rattle.fn_tree.specs.Writes.{Versions}
use Rattle.r3_model.specs.Language.{Text, Language}
use Rattle.r3_model.specs.Lawful.{IsLawful, IsLimited}

-- ---- a language of one workflow and one transaction, which do nothing

abbrev done : FlowEnd
done = Done (outcomes.Value Null)

abbrev pub no_run : TxnRun
no_run = record { outcome = outcomes.Value Null; reads = []; writes = [] }

abbrev arity_of : ℕ → Text → Option ℕ
arity_of n name = Some n

abbrev pub with_flow : (List Answer → FlowEnd) → Language
with_flow flow = record {
  has_table = λ name. false;
  queues = [];
  arity = λ name. None;
  flow = λ name args answers. flow answers;
  txn = λ name args m. no_run;
}

abbrev idle : Language
idle = with_flow (λ answers. done)

abbrev is_done : FlowEnd → ℕ
is_done (Done o) = 1
is_done (Asks q) = 2
is_done (Unexpected n recorded asked) = 3

it_is_lawful : IsLawful idle
it_is_lawful = record {
  counts = λ function args answers. tt;
  over = λ function args answers more is. refl;
  goes_on = λ function args answers a q asks same n recorded asked is. (let z : 1 ≡ 3 = ap is_done is in absurd (omega (arith, z)));
  looks_true = λ name args m. record { looks = tt; few_looks = lit≤ tt; few_puts = lit≤ tt; rising = refl };
}

abbrev is_some : Option ℕ → ℕ
is_some None = 0
is_some (Some n) = 1

abbrev is_yes : Bool → ℕ
is_yes true = 1
is_yes false = 0

it_is_limited : IsLimited idle
it_is_limited = record {
  table_names = λ table is. (let z : 0 ≡ 1 = ap is_yes is in absurd (omega (arith, z)));
  names = λ function n is. (let z : 0 ≡ 1 = ap is_some is in absurd (omega (arith, z)));
  queue_names = tt;
  ends = λ function args answers fit are. record { proper = tt; small = lit≤ tt; shallow = lit≤ tt };
  runs = λ name args m fit within. record { outcome = record { proper = tt; small = lit≤ tt; shallow = lit≤ tt }; looks = tt; puts = tt };
}

-- ---- workflows that break a law

abbrev ask : ℕ → FlowEnd
ask n = Asks (record { n = n; kind = asking.Txn; name = codes "t"; args = ListOf no_items })

abbrev answer : Answer
answer = record { name = codes "t"; outcome = outcomes.Value Null }

abbrev pub function : Text
function = codes "f"

-- it asks for step 1, where no step is answered
asks_ahead : IsLawful (with_flow (λ answers. ask 1)) → ⊥
asks_ahead l = let z : 1 ≡ 0 = (l.counts function Null []).0 in absurd (omega (arith, z))

-- a step of number 1,000
abbrev asks_length : List Answer → FlowEnd
asks_length answers = ask (length answers)

asks_without_end : IsLawful (with_flow asks_length) → ⊥
asks_without_end l = let z : 1000 < 1000 = (l.counts function Null (replicate 1000 answer)).1 in absurd (omega (arith, z))

-- it has ended, and asks once it is answered
abbrev ends_then_asks : List Answer → FlowEnd
ends_then_asks [] = done
ends_then_asks (a ∷ answers) = ask (1 + length answers)

ends_and_goes_on : IsLawful (with_flow ends_then_asks) → ⊥
ends_and_goes_on l = let z : 2 ≡ 1 = ap is_done (l.over function Null [] (answer ∷ []) tt) in absurd (omega (arith, z))

-- the answer to just what it asked is unexpected
abbrev refuses : List Answer → FlowEnd
refuses [] = ask 0
refuses (a ∷ answers) = Unexpected 0 (codes "t") (codes "u")

refuses_its_answer : IsLawful (with_flow refuses) → ⊥
refuses_its_answer l = l.goes_on function Null [] answer (record { n = 0; kind = asking.Txn; name = codes "t"; args = ListOf no_items }) refl refl 0 (codes "t") (codes "u") refl

-- ---- transactions that break a law

abbrev pub with_txn : TxnRun → Language
with_txn run = record idle { txn = λ name args m. run }

abbrev pub empty : Versions
empty = record { cell = λ table key. None; version = λ table key. 0; keys = λ table lo hi. [] }

looks_untrue : IsLawful (with_txn (record no_run { reads = At (codes "t") (codes "k") 7 ∷ [] })) → ⊥
looks_untrue l = let z : 7 ≡ 0 = (l.looks_true function Null empty).looks.0 in absurd (omega (arith, z))

looks_too_often : IsLawful (with_txn (record no_run { reads = replicate 4097 (At (codes "t") (codes "k") 0) })) → ⊥
looks_too_often l = let z : 4097 ≤ 4096 = (l.looks_true function Null empty).few_looks in absurd (omega (arith, z))

writes_too_many : IsLawful (with_txn (record no_run { writes = replicate 1025 (codes "t", codes "k", None) })) → ⊥
writes_too_many l = let z : 1025 ≤ 1024 = (l.looks_true function Null empty).few_puts in absurd (omega (arith, z))

writes_out_of_order : IsLawful (with_txn (record no_run { writes = (codes "t", codes "l", None) ∷ (codes "t", codes "k", None) ∷ [] })) → ⊥
writes_out_of_order l = let z : 0 ≡ 1 = ap is_yes (l.looks_true function Null empty).rising in absurd (omega (arith, z))

-- ---- limits

has_17_parameters : IsLimited (record idle { arity = λ name. Some 17 }) → ⊥
has_17_parameters l = let z : 17 ≤ 16 = (l.names function 17 refl).1 in absurd (omega (arith, z))

-- each name is declared, also the empty one
has_no_name : IsLimited (record idle { arity = λ name. Some 1 }) → ⊥
has_no_name l = let z : 1 ≤ 0 = (l.names [] 1 refl).0.long in absurd (omega (arith, z))

has_a_table_without_a_name : IsLimited (record idle { has_table = λ name. true }) → ⊥
has_a_table_without_a_name l = let z : 1 ≤ 0 = (l.table_names [] refl).long in absurd (omega (arith, z))

has_a_queue_without_a_name : IsLimited (record idle { queues = record { name = []; bound = 1 } ∷ [] }) → ⊥
has_a_queue_without_a_name l = let z : 1 ≤ 0 = l.queue_names.0.long in absurd (omega (arith, z))

fails_with_a_long_word : IsLimited (with_flow (λ answers. Done (outcomes.Failure (replicate 4092 97)))) → ⊥
fails_with_a_long_word l =
    let args : Val = ListOf no_items in
    let end = l.ends function args [] (record { proper = tt; small = lit≤ tt; shallow = lit≤ tt }, lit≤ tt) tt in
    let z : 4092 ≤ 4091 = end.short in
    absurd (omega (arith, z))

-- an await asks with a text alone
abbrev awaits_a_list : FlowEnd
awaits_a_list = Asks (record { n = 0; kind = asking.Await; name = codes "await"; args = ListOf no_items })

awaits_no_text : IsLimited (with_flow (λ answers. awaits_a_list)) → ⊥
awaits_no_text l =
    let args : Val = ListOf no_items in
    absurd (l.ends function args [] (record { proper = tt; small = lit≤ tt; shallow = lit≤ tt }, lit≤ tt) tt).1

writes_to_no_table : IsLimited (with_txn (record no_run { writes = ([], codes "k", None) ∷ [] })) → ⊥
writes_to_no_table l =
    let args : Val = ListOf no_items in
    let run = l.runs function args empty (record { proper = tt; small = lit≤ tt; shallow = lit≤ tt }, lit≤ tt)
    (record { cells = λ table key. tt; versions = λ table key. lit< tt; keys = λ table lo hi. tt }) in
    let z : 1 ≤ 0 = run.puts.0.0.long in
    absurd (omega (arith, z))
