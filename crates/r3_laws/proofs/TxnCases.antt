-- What an entry's act tells of what it writes and of what was asked.
use Rattle.std.proofs.Common.{◌≡◌, ℕ, Bool, true, false, ◌||◌, List, [], ◌∷◌, ◌++◌, map, length, Option, Some, refl, sym, subst, ap, ◌∙◌}
use Rattle.std.specs.Prelude.{bytes_eq}
use Rattle.std.proofs.lemmas.Slice.Eq.{bytes_eq-Decides}
use Rattle.r3_value.specs.declared.value.Outcome.{Outcome}
use Rattle.r3_rows.specs.declared.rows.FlowRow.{FlowRow}
use Rattle.r3_rows.specs.declared.rows.Status.TheVariants as status
use Rattle.r3_entry.specs.declared.entry.Act.{Act}
use Rattle.r3_entry.specs.declared.entry.Act.TheVariants as acts
use Rattle.r3_entry.specs.declared.entry.Entry.{Entry}
use Rattle.fn_tree.specs.Writes.{Write as Put}
use Rattle.r3_model.specs.Language.{Text, Language}
use Rattle.fn_tree.specs.declared.flow.Request.{Request}
use Rattle.fn_tree.specs.declared.flow.AskKind.TheVariants as asking
use Rattle.fn_tree.specs.declared.flow.FlowEnd.TheVariants.{Asks}
use Rattle.r3_model.specs.Event.{Event}
use Rattle.r3_model.specs.Rows.{flow_at}
use Rattle.r3_model.specs.Acts.{Writes, put_write}
use Rattle.r3_model.specs.Turns.{flow_end, run_on}
use Rattle.r3_laws.proofs.Cases.{AskCase, commits, hears, bears, links, awaits, finishes, goes_on, Case, programs, loads, starts, enqueues, dequeues, turns, cancels, resumes, forks, recovers}
use Rattle.r3_laws.proofs.Frame.{IsQuiet}
use Rattle.r3_laws.proofs.Quiet.{leaves}
use Rattle.r3_laws.proofs.Spares.{IsClosing}

own-refl : (id : Text) → bytes_eq id id ≡ true
own-refl id = (bytes_eq-Decides id id).1 refl

puts-then : (i : Text) (puts : List Put) (rest : Writes) → leaves i (map put_write puts ++ rest) ≡ leaves i rest
puts-then i [] rest = refl
puts-then i (p ∷ ps) rest = puts-then i ps rest

-- ---- an entry that closes a snapshot writes a row of that workflow

module _ (P : Language) (h : List Entry) (i : Text) (e : Entry) (quiet : IsQuiet i e) where
  quiet-so : (e0 : Entry) → e ≡ e0 → IsQuiet i e0
  quiet-so e0 is = let Of : Entry → Type 0 = IsQuiet i in subst Of is quiet

  closing-so : (e0 : Entry) → e ≡ e0 → IsClosing i e.act → IsClosing i e0.act
  closing-so e0 is closing = let Of : Entry → Type 0 = λ x. IsClosing i x.act in subst Of is closing

  -- its first row is of i itself
  clash : (id : Text) (rest : Bool) → id ≡ i → (bytes_eq id i || rest) ≡ false → ⊥
  clash id rest same none =
      let own : bytes_eq id i ≡ true = (bytes_eq-Decides id i).1 same in
      let z : true ≡ false = sym (ap (λ (b : Bool). b || rest) own) ∙ none in
      (let y : true ≡ false = z in cc)

  ask-closes : {snap : Option ℕ} {answer : Option Outcome} (id : Text) (q : Request) → AskCase P h id q snap answer e → IsClosing i e.act → ⊥
  ask-closes id q (commits s kind snap_is none is) closing = clash id false (closing-so _ is closing) (sym (puts-then i (run_on P h id s q).writes _) ∙ quiet-so _ is)
  ask-closes id q (hears o kind heard is) closing = closing-so _ is closing
  ask-closes id q (bears kind gone few is) closing = closing-so _ is closing
  ask-closes id q (links child o kind child_is o_is is) closing = closing-so _ is closing
  ask-closes id q (awaits o kind found is) closing = closing-so _ is closing

  pub case-closes : {ev : Event} {snap : Option ℕ} {answer : Option Outcome} → Case P h ev snap answer e → IsClosing i e.act → ⊥
  case-closes (programs text ev is) closing = closing-so _ is closing
  case-closes (loads table rows ev is) closing = closing-so _ is closing
  case-closes (starts given function args ev gone tests is) closing = closing-so _ is closing
  case-closes (enqueues given queue function args ev gone tests is) closing = closing-so _ is closing
  case-closes (dequeues queue f ev there waits is) closing = closing-so _ is closing
  case-closes (turns id row ev there runs (finishes o ends is)) closing = closing-so _ is closing
  case-closes (turns id row ev there runs (goes_on q ends c)) closing = ask-closes id q c closing
  case-closes (cancels id row ev there may is) closing = clash id false (closing-so _ is closing) (quiet-so _ is)
  case-closes (resumes id row ev there may is) closing = closing-so _ is closing
  case-closes (forks given source below row ev gone there tests is) closing = closing-so _ is closing
  case-closes (recovers id row ev there runs is) closing = clash id false (closing-so _ is closing) (quiet-so _ is)

-- ---- what a Txn entry's workflow asked for

abbrev pub IsTxnOf : Text → Act → Type 0
IsTxnOf id (acts.Txn i n args) = i ≡ id
IsTxnOf id act = ⊥

pub record AsksTxnNow (P : Language) (h : List Entry) (id : Text) : Type 0 where
  pub row : FlowRow
  pub there : flow_at h (length h) id ≡ Some row
  pub runs : row.status ≡ status.Pending
  pub request : Request
  pub asks : flow_end P h id row ≡ Asks request
  pub kind : request.kind ≡ asking.Txn

module _ (P : Language) (h : List Entry) (e : Entry) (id : Text) (txn : IsTxnOf id e.act) where
  txn-so : (e0 : Entry) → e ≡ e0 → IsTxnOf id e0.act
  txn-so e0 is = let Of : Entry → Type 0 = λ x. IsTxnOf id x.act in subst Of is txn

  as_own : (own : Text) → own ≡ id → AsksTxnNow P h own → AsksTxnNow P h id
  as_own own same a = let Of : Text → Type 0 = λ x. AsksTxnNow P h x in subst Of same a

  ask-txn : {snap : Option ℕ} {answer : Option Outcome} (own : Text) (row : FlowRow) (q : Request) → flow_at h (length h) own ≡ Some row → row.status ≡ status.Pending → flow_end P h own row ≡ Asks q → AskCase P h own q snap answer e → AsksTxnNow P h id
  ask-txn own row q there runs ends (commits s kind snap_is none is) = as_own own (txn-so _ is) (record { row = row; there = there; runs = runs; request = q; asks = ends; kind = kind })
  ask-txn own row q there runs ends (hears o kind heard is) = absurd (txn-so _ is)
  ask-txn own row q there runs ends (bears kind gone few is) = absurd (txn-so _ is)
  ask-txn own row q there runs ends (links child o kind child_is o_is is) = absurd (txn-so _ is)
  ask-txn own row q there runs ends (awaits o kind found is) = absurd (txn-so _ is)

  pub case-txn : {ev : Event} {snap : Option ℕ} {answer : Option Outcome} → Case P h ev snap answer e → AsksTxnNow P h id
  case-txn (programs text ev is) = absurd (txn-so _ is)
  case-txn (loads table rows ev is) = absurd (txn-so _ is)
  case-txn (starts given function args ev gone tests is) = absurd (txn-so _ is)
  case-txn (enqueues given queue function args ev gone tests is) = absurd (txn-so _ is)
  case-txn (dequeues queue f ev there waits is) = absurd (txn-so _ is)
  case-txn (turns own row ev there runs (finishes o ends is)) = absurd (txn-so _ is)
  case-txn (turns own row ev there runs (goes_on q ends c)) = ask-txn own row q there runs ends c
  case-txn (cancels own row ev there may is) = absurd (txn-so _ is)
  case-txn (resumes own row ev there may is) = absurd (txn-so _ is)
  case-txn (forks given source below row ev gone there tests is) = absurd (txn-so _ is)
  case-txn (recovers own row ev there runs is) = absurd (txn-so _ is)
