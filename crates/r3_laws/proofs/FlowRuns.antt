-- The runs of a program's workflows count their steps, stay over once they are, and expect the answers to what they asked.
use Rattle.std.proofs.Common.{◌≡◌, ◌≢◌, ◌+◌, subst, ℕ, suc, Bool, true, false, List, [], ◌∷◌, ◌++◌, length, Option, Some, None, refl, sym, ap, ◌∙◌, arith}
use Rattle.std.specs.Prelude.{if◌then◌else◌, nat_eq}
use Rattle.std.specs.Str.{bytes_eq}
use Rattle.std.proofs.lemmas.Slice.Eq.{bytes_eq-Decides}
use Rattle.r3_value.specs.declared.value.Val.{Val}
use Rattle.fn_tree.specs.declared.flow.Answer.{Answer}
use Rattle.fn_tree.specs.declared.flow.FlowEnd.{FlowEnd}
use Rattle.fn_tree.specs.declared.flow.FlowEnd.TheVariants as flow
use Rattle.fn_tree.specs.declared.flow.Request.{Request}
use Rattle.fn_tree.specs.declared.program.Item.{Item}
use Rattle.fn_tree.specs.declared.program.Item.TheVariants as item
use Rattle.fn_tree.specs.declared.stmt.Stmt.{Stmt}
use Rattle.fn_tree.specs.Expression.{calls_of}
use Rattle.fn_tree.specs.Ends.{Goes, Returns, Failed, Asks, Stuck}
use Rattle.fn_tree.specs.Transaction.{Counted}
use Rattle.fn_tree.specs.Flow.{Left, answered, flow_begun, begun_on, begun_among, flow_of}
use Rattle.fn_tree.specs.Values.{items_of}
use Rattle.r3_model.specs.Language.{Text}
use Rattle.r3_model.specs.Lawful.{Counts, IsOver}
use Rattle.r3_model.specs.Functions.{end_of}
use Rattle.r3_laws.proofs.Numbered.{Numbered, body-numbered}

abbrev Whole : Type 0
Whole = Left (Unit {0})

-- ---- every run begins with step 0

by_test : (b : Bool) (d e : Whole) → Numbered 0 d → Numbered 0 e → Numbered 0 (if b then d else e)
by_test true d e h g = h
by_test false d e h g = g

on-numbered : (items : List Item) (params : List (List ℕ)) (body : List Stmt) (args : Option (List Val)) → Numbered 0 (begun_on items params body args)
on-numbered items params body None = refl
on-numbered items params body (Some args) =
    by_test (nat_eq (length params) (length args)) (flow_begun items params body args) _ (body-numbered items (calls_of items) body 0 _ refl) refl

among-numbered : (items rest : List Item) (name : List ℕ) (args : Option (List Val)) → Numbered 0 (begun_among items rest name args)
among-numbered items [] name args = refl
among-numbered items (item.Flow x params body ∷ rest) name args =
    by_test (bytes_eq x name) (begun_on items params body args) (begun_among items rest name args) (on-numbered items params body args) (among-numbered items rest name args)
among-numbered items (item.Table x ∷ rest) name args = among-numbered items rest name args
among-numbered items (item.Queue x n ∷ rest) name args = among-numbered items rest name args
among-numbered items (item.Outside x params ∷ rest) name args = among-numbered items rest name args
among-numbered items (item.Helper x params body ∷ rest) name args = among-numbered items rest name args
among-numbered items (item.Txn serial x params body ∷ rest) name args = among-numbered items rest name args

-- ---- a run asks for the step after its answers

counts-by : (n : ℕ) (b : Bool) (x y : Option (Counted FlowEnd)) → Counts n (end_of x) → Counts n (end_of y) → Counts n (end_of (if b then x else y))
counts-by n true x y h g = h
counts-by n false x y h g = g

counts-from : (d : Whole) (n : ℕ) (answers : List Answer) → Numbered n d → Counts (n + length answers) (end_of (answered d answers))
counts-from (Goes a at) n answers h = tt
counts-from (Returns v at) n answers h = tt
counts-from (Failed word at) n answers h = tt
counts-from (Asks q at next) n [] h = (omega (arith, h.0), omega (arith, h.1))
counts-from (Asks q at next) n (a ∷ answers) h =
    let later : Counts (suc n + length answers) (end_of (answered (next a.outcome) answers)) = counts-from (next a.outcome) (suc n) answers (h.2 a.outcome) in
    let same : suc n + length answers ≡ n + length (a ∷ answers) = omega arith in
    counts-by (n + length (a ∷ answers)) (bytes_eq a.name q.name) (answered (next a.outcome) answers) _
    (subst (λ (k : ℕ). Counts k (end_of (answered (next a.outcome) answers))) same later) (omega (arith, h.0))
counts-from Stuck n answers h = tt

pub flow-counts : (items : List Item) (name : Text) (args : Val) (answers : List Answer) → Counts (length answers) (end_of (answered (flow_of items name args) answers))
flow-counts items name args answers =
    let c : Counts (0 + length answers) (end_of (answered (flow_of items name args) answers)) = counts-from (flow_of items name args) 0 answers (among-numbered items items name (items_of args)) in
    let same : 0 + length answers ≡ length answers = omega arith in
    subst (λ (k : ℕ). Counts k (end_of (answered (flow_of items name args) answers))) same c

-- ---- a run that is over stays so

over-by : (b : Bool) (x x' y : Option (Counted FlowEnd)) → IsOver (end_of (if b then x else y)) → (IsOver (end_of x) → end_of x' ≡ end_of x) → end_of (if b then x' else y) ≡ end_of (if b then x else y)
over-by true x x' y over e = e over
over-by false x x' y over e = refl

pub stays-over : (d : Whole) (answers more : List Answer) → IsOver (end_of (answered d answers)) → end_of (answered d (answers ++ more)) ≡ end_of (answered d answers)
stays-over (Goes a at) answers more over = refl
stays-over (Returns v at) answers more over = refl
stays-over (Failed word at) answers more over = refl
stays-over (Asks q at next) [] more over = absurd over
stays-over (Asks q at next) (a ∷ answers) more over =
    over-by (bytes_eq a.name q.name) (answered (next a.outcome) answers) (answered (next a.outcome) (answers ++ more)) _ over (stays-over (next a.outcome) answers more)
stays-over Stuck answers more over = refl

-- ---- with an answer to what it asked a run isn't unexpected

-- on no answers nothing is unexpected
fresh-expected : (d : Whole) (n : ℕ) (recorded asked : Text) → end_of (answered d []) ≢ flow.Unexpected n recorded asked
fresh-expected (Goes a at) n recorded asked is = absurd cc
fresh-expected (Returns v at) n recorded asked is = absurd cc
fresh-expected (Failed word at) n recorded asked is = absurd cc
fresh-expected (Asks q at next) n recorded asked is = absurd cc
fresh-expected Stuck n recorded asked is = absurd cc

true-branch : (b : Bool) (x y : Option (Counted FlowEnd)) (n : ℕ) (recorded asked : Text) → b ≡ true → end_of x ≢ flow.Unexpected n recorded asked → end_of (if b then x else y) ≢ flow.Unexpected n recorded asked
true-branch true x y n recorded asked is h = h
true-branch false x y n recorded asked is h = absurd cc

-- both runs take the same branch
same-branch : (b : Bool) (x x' y : Option (Counted FlowEnd)) (q : Request) (n : ℕ) (recorded asked : Text) → end_of (if b then x else y) ≡ flow.Asks q
    → (end_of y ≡ flow.Asks q → ⊥) → (end_of x ≡ flow.Asks q → end_of x' ≢ flow.Unexpected n recorded asked) → end_of (if b then x' else y) ≢ flow.Unexpected n recorded asked
same-branch true x x' y q n recorded asked is other h = h is
same-branch false x x' y q n recorded asked is other h = absurd (other is)

pub goes-on : (d : Whole) (answers : List Answer) (a : Answer) (q : Request) → end_of (answered d answers) ≡ flow.Asks q → a.name ≡ q.name
    → (n : ℕ) (recorded asked : Text) → end_of (answered d (answers ++ a ∷ [])) ≢ flow.Unexpected n recorded asked
goes-on (Goes v at) answers a q is same n recorded asked = absurd cc
goes-on (Returns v at) answers a q is same n recorded asked = absurd cc
goes-on (Failed word at) answers a q is same n recorded asked = absurd cc
goes-on (Asks p at next) [] a q is same n recorded asked =
    let one : p ≡ q = (let z : flow.Asks p ≡ flow.Asks q = is in cc) in
    true-branch (bytes_eq a.name p.name) (answered (next a.outcome) []) _ n recorded asked
    ((bytes_eq-Decides a.name p.name).1 (same ∙ ap (λ (r : Request). r.name) (sym one))) (fresh-expected (next a.outcome) n recorded asked)
goes-on (Asks p at next) (b ∷ answers) a q is same n recorded asked =
    same-branch (bytes_eq b.name p.name) (answered (next b.outcome) answers) (answered (next b.outcome) (answers ++ a ∷ [])) _ q n recorded asked is
    (λ z. absurd (let clash : flow.Unexpected p.n b.name p.name ≡ flow.Asks q = z in cc)) (λ z. goes-on (next b.outcome) answers a q z same n recorded asked)
goes-on Stuck answers a q is same n recorded asked = absurd cc
