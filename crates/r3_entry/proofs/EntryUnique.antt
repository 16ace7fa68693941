-- No spelling of an entry begins another.
use Rattle.std.proofs.Common.{◌≡◌, ℕ, ◌<◌, ◌^◌, List, [], ◌∷◌, ◌++◌, length, get_or, Option, cond, ltb, refl, ap, sym, ◌∙◌, append_assoc, arith, lit<}
use Rattle.std.specs.List.{AllByRecursion}
use Rattle.r3_value.specs.declared.value.Val.{Val}
use Rattle.r3_value.specs.declared.value.Val.TheVariants as vals
use Rattle.r3_value.specs.declared.value.Outcome.{Outcome}
use Rattle.r3_value.specs.declared.value.Outcome.TheVariants.{Value, Failure}
use Rattle.r3_value.specs.View.{value_of}
use Rattle.r3_value.proofs.ItemsLemmas.{value_of-same}
use Rattle.r3_bytes.specs.Spelling.{number, string, IsText}
use Rattle.r3_bytes.proofs.Unique.{value_one}
use Rattle.r3_rows.specs.declared.rows.Key.{Key}
use Rattle.r3_rows.specs.declared.rows.Key.TheVariants.{User, Flow, Step}
use Rattle.r3_rows.specs.declared.rows.Status.{Status}
use Rattle.r3_rows.specs.declared.rows.Status.TheVariants as status
use Rattle.r3_rows.specs.declared.rows.StepKind.{StepKind}
use Rattle.r3_rows.specs.declared.rows.StepKind.TheVariants as kinds
use Rattle.r3_rows.specs.declared.rows.FlowRow.{FlowRow}
use Rattle.r3_rows.specs.declared.rows.StepRow.{StepRow}
use Rattle.r3_rows.specs.declared.rows.Cell.{Cell}
use Rattle.r3_rows.specs.declared.rows.Cell.TheVariants as cells
use Rattle.r3_rows.specs.declared.rows.Read.{Read}
use Rattle.r3_rows.specs.declared.rows.Read.TheVariants.{At, Range}
use Rattle.r3_entry.specs.declared.entry.Act.{Act}
use Rattle.r3_entry.specs.declared.entry.Act.TheVariants as acts
use Rattle.r3_entry.specs.declared.entry.Entry.{Entry}
use Rattle.r3_entry.specs.Bytes as spell
use Rattle.r3_entry.specs.Limits.{IsSized, IsId, IsName, IsRowKey, IsBound, IsAnyText, IfThere, IsVal, IsArgs, IsOutcome, IsKey, IsFlow, IsStep, IsCell, IsSeen, IsRead, IsStepAct, IsAct, IsWrite, IsEntry}
use Rattle.r3_entry.proofs.Codes.{IsUnique, number_unique, string_unique, weaker, pair_unique, option_unique, list_unique}

sized_text : (least most : ℕ) (s : List ℕ) → most < 2 ^ 32 → IsSized least most s → IsText s
sized_text least most s fits h = record { short = omega (arith, h.short); utf8 = h.utf8 }

pub sized_unique : (least most : ℕ) → most < 2 ^ 32 → IsUnique string (IsSized least most)
sized_unique least most fits = weaker string IsText (IsSized least most) (λ s h. sized_text least most s fits h) string_unique

pub val_unique : IsUnique spell.val IsVal
val_unique = record {
  one = λ v w a b hv hw e.
      let same = value_one (value_of v) (value_of w) a b (record { proper = hv.proper; small = hv.small }) (record { proper = hw.proper; small = hw.small }) e in
      (value_of-same v w same.0, same.1);
}

pub args_val : (v : Val) → IsArgs v → IsVal v
args_val (vals.List vs) h = h.0
args_val vals.Null h = absurd h
args_val (vals.Bool b) h = absurd h
args_val (vals.Int z) h = absurd h
args_val (vals.Text s) h = absurd h

pub args_unique : IsUnique spell.val IsArgs
args_unique = weaker spell.val IsVal IsArgs args_val val_unique

outcome_one : (x y : Outcome) (a b : List ℕ) → IsOutcome x → IsOutcome y → spell.outcome x ++ a ≡ spell.outcome y ++ b → (x ≡ y) × (a ≡ b)
outcome_one (Value v) (Value w) a b hx hy e =
    let tail : spell.val v ++ a ≡ spell.val w ++ b = cc in
    let one = val_unique.one v w a b hx hy tail in
    (ap Value one.0, one.1)
outcome_one (Failure s) (Failure t) a b hx hy e =
    let tail : string s ++ a ≡ string t ++ b = cc in
    let one = (sized_unique 0 4091 (lit< tt)).one s t a b hx hy tail in
    (ap Failure one.0, one.1)
outcome_one x y a b hx hy e = absurd cc

pub outcome_unique : IsUnique spell.outcome IsOutcome
outcome_unique = record { one = outcome_one }

key_one : (x y : Key) (a b : List ℕ) → IsKey x → IsKey y → spell.key x ++ a ≡ spell.key y ++ b → (x ≡ y) × (a ≡ b)
key_one (User t k) (User u l) a b hx hy e =
    let tail : (string t ++ string k) ++ a ≡ (string u ++ string l) ++ b = cc in
    let one = (pair_unique string IsName string IsRowKey (sized_unique 1 64 (lit< tt)) (sized_unique 1 256 (lit< tt))).one (t, k) (u, l) a b hx hy tail in
    (ap (λ (p : List ℕ × List ℕ). User p.0 p.1) one.0, one.1)
key_one (Flow i) (Flow j) a b hx hy e =
    let tail : string i ++ a ≡ string j ++ b = cc in
    let one = (sized_unique 1 200 (lit< tt)).one i j a b hx hy tail in
    (ap Flow one.0, one.1)
key_one (Step i m) (Step j n) a b hx hy e =
    let tail : (string i ++ number m) ++ a ≡ (string j ++ number n) ++ b = cc in
    let one = (pair_unique string IsId number (λ n. n < 2 ^ 32) (sized_unique 1 200 (lit< tt)) number_unique).one (i, m) (j, n) a b (hx.0, omega (arith, hx.1)) (hy.0, omega (arith, hy.1)) tail in
    (ap (λ (p : List ℕ × ℕ). Step p.0 p.1) one.0, one.1)
key_one x y a b hx hy e = absurd cc

pub key_unique : IsUnique spell.key IsKey
key_unique = record { one = key_one }

-- ---- acts

step_act_unique : IsUnique (λ (p : List ℕ × ℕ). string p.0 ++ number p.1) (λ p. IsStepAct p.0 p.1)
step_act_unique =
    weaker (λ (p : List ℕ × ℕ). string p.0 ++ number p.1) (λ p. IsId p.0 × (p.1 < 2 ^ 32)) (λ p. IsStepAct p.0 p.1) (λ p h. (h.0, omega (arith, h.1)))
    (pair_unique string IsId number (λ n. n < 2 ^ 32) (sized_unique 1 200 (lit< tt)) number_unique)

id_one : (i j a b : List ℕ) → IsId i → IsId j → string i ++ a ≡ string j ++ b → (i ≡ j) × (a ≡ b)
id_one i j a b hi hj e = (sized_unique 1 200 (lit< tt)).one i j a b hi hj e

-- a step's ID and number, and a field
step_one : {X : Type 0} (s : X → List ℕ) (I : X → Type 0) → IsUnique s I → (i j : List ℕ) (m n : ℕ) (x y : X) (a b : List ℕ) → IsStepAct i m × I x → IsStepAct j n × I y
    → (string i ++ number m ++ s x) ++ a ≡ (string j ++ number n ++ s y) ++ b → (◌≡◌ {A = (List ℕ × ℕ) × X} ((i, m), x) ((j, n), y)) × (a ≡ b)
step_one {X} s I u i j m n x y a b hx hy e =
    (pair_unique (λ (p : List ℕ × ℕ). string p.0 ++ number p.1) (λ p. IsStepAct p.0 p.1) s I step_act_unique u).one ((i, m), x) ((j, n), y) a b hx hy e

abbrev pub act_tag : Act → ℕ
act_tag (acts.Program text) = 1
act_tag acts.Load = 2
act_tag (acts.Start id) = 3
act_tag (acts.Enqueue id) = 4
act_tag (acts.Dequeue id) = 5
act_tag (acts.Txn id n args) = 6
act_tag (acts.Outside id n args) = 7
act_tag (acts.Child id n child) = 8
act_tag (acts.Await id n on) = 9
act_tag (acts.Finish id) = 10
act_tag (acts.Cancel id) = 11
act_tag (acts.Resume id) = 12
act_tag (acts.Fork id from below) = 13
act_tag (acts.Recover id) = 14

pub first_byte : (x : Act) (a : List ℕ) → get_or (spell.act x ++ a) 0 0 ≡ act_tag x
first_byte (acts.Program text) a = refl
first_byte acts.Load a = refl
first_byte (acts.Start id) a = refl
first_byte (acts.Enqueue id) a = refl
first_byte (acts.Dequeue id) a = refl
first_byte (acts.Txn id n args) a = refl
first_byte (acts.Outside id n args) a = refl
first_byte (acts.Child id n child) a = refl
first_byte (acts.Await id n on) a = refl
first_byte (acts.Finish id) a = refl
first_byte (acts.Cancel id) a = refl
first_byte (acts.Resume id) a = refl
first_byte (acts.Fork id from below) a = refl
first_byte (acts.Recover id) a = refl

tag_same : (x y : Act) (a b : List ℕ) → spell.act x ++ a ≡ spell.act y ++ b → act_tag x ≡ act_tag y
tag_same x y a b e = sym (first_byte x a) ∙ ap (λ (l : List ℕ). get_or l 0 0) e ∙ first_byte y b

act_one : (x y : Act) (a b : List ℕ) → IsAct x → IsAct y → spell.act x ++ a ≡ spell.act y ++ b → (x ≡ y) × (a ≡ b)
act_one (acts.Program s) (acts.Program t) a b hx hy e =
    let tail : string s ++ a ≡ string t ++ b = cc in
    let one = (sized_unique 0 1048576 (lit< tt)).one s t a b hx hy tail in (ap acts.Program one.0, one.1)
act_one acts.Load acts.Load a b hx hy e = (refl, cc)
act_one (acts.Start i) (acts.Start j) a b hx hy e = let tail : string i ++ a ≡ string j ++ b = cc in let one = id_one i j a b hx hy tail in (ap acts.Start one.0, one.1)
act_one (acts.Enqueue i) (acts.Enqueue j) a b hx hy e = let tail : string i ++ a ≡ string j ++ b = cc in let one = id_one i j a b hx hy tail in (ap acts.Enqueue one.0, one.1)
act_one (acts.Dequeue i) (acts.Dequeue j) a b hx hy e = let tail : string i ++ a ≡ string j ++ b = cc in let one = id_one i j a b hx hy tail in (ap acts.Dequeue one.0, one.1)
act_one (acts.Txn i m v) (acts.Txn j n w) a b hx hy e =
    let tail : (string i ++ number m ++ spell.val v) ++ a ≡ (string j ++ number n ++ spell.val w) ++ b = cc in
    let one = step_one spell.val IsArgs args_unique i j m n v w a b hx hy tail in
    (ap (λ (p : (List ℕ × ℕ) × Val). acts.Txn p.0.0 p.0.1 p.1) one.0, one.1)
act_one (acts.Outside i m v) (acts.Outside j n w) a b hx hy e =
    let tail : (string i ++ number m ++ spell.val v) ++ a ≡ (string j ++ number n ++ spell.val w) ++ b = cc in
    let one = step_one spell.val IsArgs args_unique i j m n v w a b hx hy tail in
    (ap (λ (p : (List ℕ × ℕ) × Val). acts.Outside p.0.0 p.0.1 p.1) one.0, one.1)
act_one (acts.Child i m v) (acts.Child j n w) a b hx hy e =
    let tail : (string i ++ number m ++ string v) ++ a ≡ (string j ++ number n ++ string w) ++ b = cc in
    let one = step_one string IsId (sized_unique 1 200 (lit< tt)) i j m n v w a b hx hy tail in
    (ap (λ (p : (List ℕ × ℕ) × List ℕ). acts.Child p.0.0 p.0.1 p.1) one.0, one.1)
act_one (acts.Await i m v) (acts.Await j n w) a b hx hy e =
    let tail : (string i ++ number m ++ string v) ++ a ≡ (string j ++ number n ++ string w) ++ b = cc in
    let one = step_one string IsAnyText (sized_unique 0 4091 (lit< tt)) i j m n v w a b hx hy tail in
    (ap (λ (p : (List ℕ × ℕ) × List ℕ). acts.Await p.0.0 p.0.1 p.1) one.0, one.1)
act_one (acts.Finish i) (acts.Finish j) a b hx hy e = let tail : string i ++ a ≡ string j ++ b = cc in let one = id_one i j a b hx hy tail in (ap acts.Finish one.0, one.1)
act_one (acts.Cancel i) (acts.Cancel j) a b hx hy e = let tail : string i ++ a ≡ string j ++ b = cc in let one = id_one i j a b hx hy tail in (ap acts.Cancel one.0, one.1)
act_one (acts.Resume i) (acts.Resume j) a b hx hy e = let tail : string i ++ a ≡ string j ++ b = cc in let one = id_one i j a b hx hy tail in (ap acts.Resume one.0, one.1)
act_one (acts.Fork i f m) (acts.Fork j g n) a b hx hy e =
    let tail : (string i ++ string f ++ number m) ++ a ≡ (string j ++ string g ++ number n) ++ b = cc in
    let ids = pair_unique string IsId string IsId (sized_unique 1 200 (lit< tt)) (sized_unique 1 200 (lit< tt)) in
    let one = (pair_unique (λ (p : List ℕ × List ℕ). string p.0 ++ string p.1) (λ p. IsId p.0 × IsId p.1) number (λ n. n < 2 ^ 32) ids number_unique).one ((i, f), m) ((j, g), n) a b ((hx.0, hx.1), omega (arith, hx.2)) ((hy.0, hy.1), omega (arith, hy.2)) tail in
    (ap (λ (p : (List ℕ × List ℕ) × ℕ). acts.Fork p.0.0 p.0.1 p.1) one.0, one.1)
act_one (acts.Recover i) (acts.Recover j) a b hx hy e = let tail : string i ++ a ≡ string j ++ b = cc in let one = id_one i j a b hx hy tail in (ap acts.Recover one.0, one.1)
act_one x y a b hx hy e = absurd (omega (arith, tag_same x y a b e))

pub act_unique : IsUnique spell.act IsAct
act_unique = record { one = act_one }

-- ---- rows

status_of : ℕ → Status
status_of n = cond (ltb n 1) status.Enqueued (cond (ltb n 2) status.Pending (cond (ltb n 3) status.Success (cond (ltb n 4) status.Error (cond (ltb n 5) status.Cancelled status.MaxRecoveryAttemptsExceeded))))

status_of-code : (s : Status) → status_of (spell.status_code s) ≡ s
unfolding status_of
status_of-code status.Enqueued = refl
status_of-code status.Pending = refl
status_of-code status.Success = refl
status_of-code status.Error = refl
status_of-code status.Cancelled = refl
status_of-code status.MaxRecoveryAttemptsExceeded = refl

pub kind_of : ℕ → StepKind
kind_of n = cond (ltb n 1) kinds.Txn (cond (ltb n 2) kinds.Outside (cond (ltb n 3) kinds.Child kinds.Await))

pub kind_of-code : (k : StepKind) → kind_of (spell.kind_code k) ≡ k
unfolding kind_of
kind_of-code kinds.Txn = refl
kind_of-code kinds.Outside = refl
kind_of-code kinds.Child = refl
kind_of-code kinds.Await = refl

cons_one : {X : Type 0} (code : X → ℕ) (of : ℕ → X) → ((x : X) → of (code x) ≡ x) → (x y : X) (a b : List ℕ) → code x ∷ a ≡ code y ∷ b → (x ≡ y) × (a ≡ b)
cons_one code of back x y a b e =
    let head : code x ≡ code y = cc in
    (sym (back x) ∙ ap of head ∙ back y, cc)

-- a byte that tells a status or a kind
pub byte_unique : {X : Type 0} (code : X → ℕ) (of : ℕ → X) → ((x : X) → of (code x) ≡ x) → IsUnique (λ (x : X). code x ∷ []) (λ x. Unit {0})
byte_unique code of back = record { one = λ x y a b hx hy e. cons_one code of back x y a b e }

abbrev spell_status : Status → List ℕ
spell_status s = spell.status_code s ∷ []

abbrev spell_kind : StepKind → List ℕ
spell_kind k = spell.kind_code k ∷ []

-- a row as nested pairs, in the order of its fields
abbrev FlowFields : Type 0
FlowFields = ((((((List ℕ × Val) × Option Outcome) × Option (List ℕ)) × ℕ) × ℕ) × Option (List ℕ))

abbrev flow_fields : FlowRow → FlowFields
flow_fields r = ((((((r.function, r.args), r.outcome), r.queue), r.started), r.attempts), r.parent)

abbrev spell_flow : FlowFields → List ℕ
spell_flow p =
    string p.0.0.0.0.0.0 ++ spell.val p.0.0.0.0.0.1 ++ spell.option spell.outcome p.0.0.0.0.1 ++ spell.option string p.0.0.0.1
    ++ number p.0.0.1 ++ number p.0.1 ++ spell.option string p.1

abbrev IsNum : ℕ → Type 0
IsNum n = n < 2 ^ 32

abbrev AreFlowFields : FlowFields → Type 0
AreFlowFields p = (((((IsName p.0.0.0.0.0.0 × IsArgs p.0.0.0.0.0.1) × IfThere IsOutcome p.0.0.0.0.1) × IfThere IsName p.0.0.0.1) × IsNum p.0.0.1) × IsNum p.0.1) × IfThere IsId p.1

pub flow_fields_unique : IsUnique spell_flow AreFlowFields
flow_fields_unique =
    let p1 = pair_unique string IsName spell.val IsArgs (sized_unique 1 64 (lit< tt)) args_unique in
    let p2 = pair_unique (λ (p : List ℕ × Val). string p.0 ++ spell.val p.1) (λ p. IsName p.0 × IsArgs p.1) (spell.option spell.outcome) (IfThere IsOutcome) p1 (option_unique spell.outcome IsOutcome outcome_unique) in
    let p3 = pair_unique _ _ (spell.option string) (IfThere IsName) p2 (option_unique string IsName (sized_unique 1 64 (lit< tt))) in
    let p4 = pair_unique _ _ number IsNum p3 number_unique in
    let p5 = pair_unique _ _ number IsNum p4 number_unique in
    pair_unique _ _ (spell.option string) (IfThere IsId) p5 (option_unique string IsId (sized_unique 1 200 (lit< tt)))

are_flow_fields : (r : FlowRow) → IsFlow r → AreFlowFields (flow_fields r)
are_flow_fields r h = ((((((h.function, h.args), h.outcome), h.queue), omega (arith, h.started.1)), omega (arith, h.attempts)), h.parent)

flow_one : (x y : FlowRow) (a b : List ℕ) → IsFlow x → IsFlow y → spell.flow_row x ++ a ≡ spell.flow_row y ++ b → (x ≡ y) × (a ≡ b)
flow_one x y a b hx hy e =
    let s = cons_one spell.status_code status_of status_of-code x.status y.status (spell_flow (flow_fields x) ++ a) (spell_flow (flow_fields y) ++ b) e in
    let f = flow_fields_unique.one (flow_fields x) (flow_fields y) a b (are_flow_fields x hx) (are_flow_fields y hy) s.1 in
    (λ i. record { status = s.0 i; function = (f.0 i).0.0.0.0.0.0; args = (f.0 i).0.0.0.0.0.1; outcome = (f.0 i).0.0.0.0.1; queue = (f.0 i).0.0.0.1; started = (f.0 i).0.0.1; attempts = (f.0 i).0.1; parent = (f.0 i).1 }, f.1)

pub flow_unique : IsUnique spell.flow_row IsFlow
flow_unique = record { one = flow_one }

step_row_one : (x y : StepRow) (a b : List ℕ) → IsStep x → IsStep y → spell.step_row x ++ a ≡ spell.step_row y ++ b → (x ≡ y) × (a ≡ b)
step_row_one x y a b hx hy e =
    let n = (sized_unique 1 64 (lit< tt)).one x.name y.name (spell.kind_code x.kind ∷ (spell.outcome x.outcome ++ a)) (spell.kind_code y.kind ∷ (spell.outcome y.outcome ++ b)) hx.name hy.name
    (sym (append_assoc (string x.name) (spell.kind_code x.kind ∷ spell.outcome x.outcome) a) ∙ e ∙ append_assoc (string y.name) (spell.kind_code y.kind ∷ spell.outcome y.outcome) b) in
    let k = cons_one spell.kind_code kind_of kind_of-code x.kind y.kind (spell.outcome x.outcome ++ a) (spell.outcome y.outcome ++ b) n.1 in
    let o = outcome_unique.one x.outcome y.outcome a b hx.outcome hy.outcome k.1 in
    (λ i. record { name = n.0 i; kind = k.0 i; outcome = o.0 i }, o.1)

pub step_unique : IsUnique spell.step_row IsStep
step_unique = record { one = step_row_one }

cell_one : (x y : Cell) (a b : List ℕ) → IsCell x → IsCell y → spell.cell x ++ a ≡ spell.cell y ++ b → (x ≡ y) × (a ≡ b)
cell_one (cells.Row v) (cells.Row w) a b hx hy e =
    let tail : spell.val v ++ a ≡ spell.val w ++ b = cc in
    let one = val_unique.one v w a b hx hy tail in (ap cells.Row one.0, one.1)
cell_one (cells.Flow r) (cells.Flow s) a b hx hy e =
    let tail : spell.flow_row r ++ a ≡ spell.flow_row s ++ b = cc in
    let one = flow_one r s a b hx hy tail in (ap cells.Flow one.0, one.1)
cell_one (cells.Step r) (cells.Step s) a b hx hy e =
    let tail : spell.step_row r ++ a ≡ spell.step_row s ++ b = cc in
    let one = step_row_one r s a b hx hy tail in (ap cells.Step one.0, one.1)
cell_one x y a b hx hy e = absurd cc

pub cell_unique : IsUnique spell.cell IsCell
cell_unique = record { one = cell_one }

abbrev spell_seen : List ℕ × ℕ → List ℕ
spell_seen p = string p.0 ++ number p.1

pub seen_unique : IsUnique spell_seen IsSeen
seen_unique = pair_unique string IsRowKey number IsNum (sized_unique 1 256 (lit< tt)) number_unique

read_one : (x y : Read) (a b : List ℕ) → IsRead x → IsRead y → spell.read x ++ a ≡ spell.read y ++ b → (x ≡ y) × (a ≡ b)
read_one (At t k v) (At u l w) a b hx hy e =
    let tail : (string t ++ string k ++ number v) ++ a ≡ (string u ++ string l ++ number w) ++ b = cc in
    let p1 = pair_unique string IsName string IsRowKey (sized_unique 1 64 (lit< tt)) (sized_unique 1 256 (lit< tt)) in
    let p2 = pair_unique (λ (p : List ℕ × List ℕ). string p.0 ++ string p.1) (λ p. IsName p.0 × IsRowKey p.1) number IsNum p1 number_unique in
    let one = p2.one ((t, k), v) ((u, l), w) a b ((hx.0, hx.1), hx.2) ((hy.0, hy.1), hy.2) tail in
    (ap (λ (p : (List ℕ × List ℕ) × ℕ). At p.0.0 p.0.1 p.1) one.0, one.1)
read_one (Range t lo hi ks) (Range u lo2 hi2 ls) a b hx hy e =
    let tail : (string t ++ string lo ++ string hi ++ spell.list spell_seen ks) ++ a ≡ (string u ++ string lo2 ++ string hi2 ++ spell.list spell_seen ls) ++ b = cc in
    let p1 = pair_unique string IsName string IsBound (sized_unique 1 64 (lit< tt)) (sized_unique 0 256 (lit< tt)) in
    let p2 = pair_unique (λ (p : List ℕ × List ℕ). string p.0 ++ string p.1) (λ p. IsName p.0 × IsBound p.1) string IsBound p1 (sized_unique 0 256 (lit< tt)) in
    let p3 = pair_unique _ _ (spell.list spell_seen) (λ xs. (length xs < 2 ^ 32) × AllByRecursion IsSeen xs) p2 (list_unique spell_seen IsSeen seen_unique) in
    let one = p3.one (((t, lo), hi), ks) (((u, lo2), hi2), ls) a b (((hx.0, hx.1), hx.2), hx.3) (((hy.0, hy.1), hy.2), hy.3) tail in
    (ap (λ (p : ((List ℕ × List ℕ) × List ℕ) × List (List ℕ × ℕ)). Range p.0.0.0 p.0.0.1 p.0.1 p.1) one.0, one.1)
read_one x y a b hx hy e = absurd cc

pub read_unique : IsUnique spell.read IsRead
read_unique = record { one = read_one }

-- ---- entries

abbrev spell_write : Key × Option Cell → List ℕ
spell_write w = spell.key w.0 ++ spell.option spell.cell w.1

pub write_unique : IsUnique spell_write IsWrite
write_unique = pair_unique spell.key IsKey (spell.option spell.cell) (IfThere IsCell) key_unique (option_unique spell.cell IsCell cell_unique)

abbrev EntryFields : Type 0
EntryFields = ((Act × ℕ) × List Read) × List (Key × Option Cell)

entry_one : (x y : Entry) (a b : List ℕ) → IsEntry x → IsEntry y → spell.entry x ++ a ≡ spell.entry y ++ b → (x ≡ y) × (a ≡ b)
entry_one x y a b hx hy e =
    let p1 = pair_unique spell.act IsAct number IsNum act_unique number_unique in
    let p2 = pair_unique (λ (p : Act × ℕ). spell.act p.0 ++ number p.1) (λ p. IsAct p.0 × IsNum p.1) (spell.list spell.read) (λ xs. (length xs < 2 ^ 32) × AllByRecursion IsRead xs) p1 (list_unique spell.read IsRead read_unique) in
    let p3 = pair_unique _ _ (spell.list spell_write) (λ xs. (length xs < 2 ^ 32) × AllByRecursion IsWrite xs) p2 (list_unique spell_write IsWrite write_unique) in
    let one = p3.one (((x.act, x.snap), x.reads), x.writes) (((y.act, y.snap), y.reads), y.writes) a b
    (((hx.act, hx.snap), (hx.reads_fit, hx.reads)), (hx.writes_fit, hx.writes)) (((hy.act, hy.snap), (hy.reads_fit, hy.reads)), (hy.writes_fit, hy.writes)) e in
    (λ i. record { act = (one.0 i).0.0.0; snap = (one.0 i).0.0.1; reads = (one.0 i).0.1; writes = (one.0 i).1 }, one.1)

pub entry_unique : IsUnique spell.entry IsEntry
entry_unique = record { one = entry_one }
