-- There is a lawful language whose workflow asks for a transaction.
use Rattle.std.proofs.Common.{◌≡◌, ◌≢◌, ℕ, suc, Bool, true, false, List, [], ◌∷◌, ◌++◌, length, Some, None, refl, sym, ap, ◌∙◌, arith}
use Rattle.std.specs.Prelude.{codes, bytes_eq, if◌then◌else◌, IsTrue}
use Rattle.std.specs.Str.{is_utf8, chars}
use Rattle.std.proofs.lemmas.Slice.Eq.{bytes_eq-Decides}
use lib.Utf8.{encode}
use Rattle.r3_value.specs.declared.value.Val.{Val}
use Rattle.r3_value.specs.declared.value.Val.TheVariants as vals
use Rattle.r3_value.specs.declared.value.Outcome.TheVariants as outcomes
use Rattle.r3_entry.specs.Limits.{IsOutcome, IsArgs}
use Rattle.r3_model.specs.Language.{Text, Language}
use Rattle.fn_tree.specs.declared.flow.Answer.{Answer}
use Rattle.fn_tree.specs.declared.flow.Request.{Request}
use Rattle.fn_tree.specs.declared.flow.FlowEnd.{FlowEnd}
use Rattle.fn_tree.specs.declared.flow.FlowEnd.TheVariants.{Done, Asks, Unexpected}
use Rattle.fn_tree.specs.declared.flow.AskKind.TheVariants as asking
use Rattle.fn_tree.specs.declared.look.TxnRun.{TxnRun}
use Rattle.r3_model.specs.Lawful.{IsLawful, IsLimited, Counts, IsOver, EndsWell, AreAnswers}

abbrev name : Text
name = codes "t"

abbrev ends_as : Bool → Answer → FlowEnd
ends_as b a = if b then Done a.outcome else Unexpected 0 a.name (codes "t")

abbrev flow : Text → Val → List Answer → FlowEnd
flow function args [] = Asks (record { n = 0; kind = asking.Txn; name = codes "t"; args = args })
flow function args (a ∷ rest) = ends_as (bytes_eq a.name (codes "t")) a

abbrev nothing : TxnRun
nothing = record { outcome = outcomes.Value vals.Null; reads = []; writes = [] }

abbrev pub once : Language
once = record { has_table = λ t. false; queues = []; arity = λ f. None; flow = flow; txn = λ n args m. nothing }

counts-so : (b : Bool) (a : Answer) (n : ℕ) → Counts (suc n) (ends_as b a)
counts-so true a n = tt
counts-so false a n = omega arith

counts : (function : Text) (args : Val) (answers : List Answer) → Counts (length answers) (flow function args answers)
counts function args [] = (refl, omega arith)
counts function args (a ∷ rest) = counts-so (bytes_eq a.name (codes "t")) a (length rest)

over : (function : Text) (args : Val) (answers more : List Answer) → IsOver (flow function args answers) → flow function args (answers ++ more) ≡ flow function args answers
over function args [] more is = absurd is
over function args (a ∷ rest) more is = refl

not_asks : {A : Type 0} (b : Bool) (a : Answer) (q : Request) → ends_as b a ≡ Asks q → A
not_asks true a q is = absurd cc
not_asks false a q is = absurd cc

expects : (b : Bool) (a : Answer) (n : ℕ) (recorded asked : Text) → b ≡ true → ends_as b a ≢ Unexpected n recorded asked
expects true a n recorded asked is clash = (let z : Done a.outcome ≡ Unexpected n recorded asked = clash in cc)
expects false a n recorded asked is clash = absurd cc

goes_on : (function : Text) (args : Val) (answers : List Answer) (a : Answer) (q : Request) → flow function args answers ≡ Asks q → a.name ≡ q.name → (n : ℕ) (recorded asked : Text) → flow function args (answers ++ a ∷ []) ≢ Unexpected n recorded asked
goes_on function args [] a q is same n recorded asked =
    let one : record { n = 0; kind = asking.Txn; name = codes "t"; args = args } ≡ q = cc in
    expects (bytes_eq a.name (codes "t")) a n recorded asked ((bytes_eq-Decides a.name (codes "t")).1 (same ∙ ap (λ (r : Request). r.name) (sym one)))
goes_on function args (b ∷ rest) a q is same n recorded asked = not_asks (bytes_eq b.name (codes "t")) b q is

ends-so : (b : Bool) (a : Answer) → IsOutcome a.outcome → EndsWell (ends_as b a)
ends-so true a is = is
ends-so false a is = tt

utf8 : IsTrue (is_utf8 (codes "t"))
unfolding is_utf8 chars encode
utf8 = refl

pub once-lawful : IsLawful once
once-lawful = record {
  counts = counts;
  over = over;
  goes_on = goes_on;
  looks_true = λ n args m. record { looks = tt; few_looks = omega arith; few_puts = omega arith; rising = refl };
}

pub once-limited : IsLimited once
once-limited = record {
  table_names = λ table is. absurd (let z : false ≡ true = is in cc);
  names = λ f n is. absurd (let z : None ≡ Some n = is in cc);
  queue_names = tt;
  ends = λ function args answers args_fit all. ends function args answers args_fit all;
  runs = λ n args m args_fit sound. record { outcome = record { proper = tt; small = omega arith; shallow = omega arith }; looks = tt; puts = tt };
} where
  ends : (function : Text) (args : Val) (answers : List Answer) → IsArgs args → AreAnswers answers → EndsWell (flow function args answers)
  ends function args [] fit all = (record { long = omega arith; short = omega arith; utf8 = utf8 }, fit)
  ends function args (a ∷ rest) fit all = ends-so (bytes_eq a.name (codes "t")) a all.0
