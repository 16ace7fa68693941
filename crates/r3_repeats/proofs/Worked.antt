-- A worked store: a call that a crash cuts, and a call that starts the same workflow again. The crash comes when one
-- byte of the third reply was said: the first workflow has ended and is kept, and the second one's start is lost.
use Rattle.std.proofs.Common.{◌≡◌, List, [], ◌∷◌, take, length, Some, None, refl, arith}
use Rattle.std.specs.Prelude.{codes, bytes_eq, false, if◌then◌else◌, flat_map}
use Rattle.std.specs.Fmt.{digits}
use Rattle.std.specs.List.{AllByRecursion}
use Rattle.serde_json.proofs.OnLiterals.{serde_json_on_literals}
use Rattle.r3_value.specs.Value as value
use Rattle.r3_value.specs.declared.value.Val.{Val}
use Rattle.r3_value.specs.declared.value.Val.TheVariants.{Null, List as ListOf}
use Rattle.r3_value.specs.declared.value.Outcome.TheVariants as outcomes
use Rattle.r3_rows.specs.declared.rows.FlowRow.{FlowRow}
use Rattle.r3_rows.specs.declared.rows.Status.TheVariants as status
use Rattle.r3_entry.specs.declared.entry.Entry.{Entry}
use Rattle.fn_tree.specs.declared.flow.FlowEnd.TheVariants.{Done}
use Rattle.sys_flow.specs.declared.command.Command.{Command}
use Rattle.sys_flow.specs.declared.command.Command.TheVariants.{Start}
use Rattle.r3_model.specs.Language.{Text, Language}
use Rattle.r3_model.specs.Event.{Run, Turn, ShowStatus, Entry as Numbered, EntryOf, Row}
use Rattle.r3_model.specs.Replies.{reply_text}
use Rattle.r3_model.specs.Acts.{program_entry, start_entry, finish_entry, started}
use Rattle.r3_model.specs.Script.{Does, held_by}
use Rattle.r3_repeats.specs.Invocations.{Invocation, told_in, GoesByMachine, AreOnOneStore, IsAcknowledged, acknowledged}
use Rattle.r3_repeats.specs.Laws.{AreLines}
use Rattle.r3_repeats.specs.Steps.{KeepsLimits, IsOneOnStore}

-- two workflows, which end at once
unfoldable pub tiny : Language
tiny = record {
  has_table = λ table. false;
  queues = [];
  arity = λ function. if bytes_eq function (codes "f") then Some 0 else if bytes_eq function (codes "g") then Some 0 else None;
  flow = λ function args answers. Done (outcomes.Value Null);
  txn = λ name args m. record { outcome = outcomes.Value Null; reads = []; writes = [] };
}

abbrev pub no_args : Val
no_args = ListOf value.no_items

abbrev pub start : Text → Command
start id = Start (Some id) (codes "f") no_args

-- ---- what is stored

abbrev pub one : List Entry
one = program_entry [] (codes "t") ∷ []

abbrev pub two : List Entry
two = program_entry [] (codes "t") ∷ start_entry one (codes "a") (codes "f") no_args ∷ []

abbrev pub running : FlowRow
running = started status.Pending (codes "f") no_args None 2 None

abbrev pub ended : FlowRow
ended = record running { status = status.Success; outcome = Some (outcomes.Value Null) }

abbrev pub three : List Entry
three =
    program_entry [] (codes "t")
    ∷ start_entry one (codes "a") (codes "f") no_args
    ∷ finish_entry two (codes "a") running (outcomes.Value Null) ∷ []

-- ---- the calls

abbrev cut : Invocation
cut = record {
  text = codes "t";
  before = [];
  lines = Does (Run (start (codes "a"))) ∷ Does (Turn (codes "a")) ∷ Does (ShowStatus (codes "a")) ∷ Does (Run (start (codes "b"))) ∷ [];
  answers = [];
  said = 34;
  asked = 0;
  left = three;
}

abbrev again : Invocation
again = record {
  text = codes "t";
  before = three;
  lines = Does (Run (start (codes "a"))) ∷ Does (ShowStatus (codes "a")) ∷ [];
  answers = [];
  said = 22;
  asked = 0;
  left = three;
}

said_by_cut : (told_in tiny cut).said ≡ EntryOf 2 (codes "a") ∷ Numbered 3 ∷ Row (codes "a") ended ∷ EntryOf 4 (codes "b") ∷ []
unfolding digits serde_json_on_literals tiny
said_by_cut = refl

said_again : (told_in tiny again).said ≡ EntryOf 2 (codes "a") ∷ Row (codes "a") ended ∷ []
unfolding digits serde_json_on_literals tiny
said_again = refl

-- the third reply was begun, so three entries are kept
cut-goes : GoesByMachine tiny cut
unfolding digits serde_json_on_literals tiny
cut-goes =
    let count : length (told_in tiny cut).trail.state.history ≡ 4 = refl in
    let owes : held_by [] (told_in tiny cut) 34 0 ≡ 3 = refl in
    record { len = 3; within = omega (arith, count); held_kept = omega (arith, owes); left_is = refl }

again-goes : GoesByMachine tiny again
unfolding digits serde_json_on_literals tiny
again-goes =
    let count : length (told_in tiny again).trail.state.history ≡ 3 = refl in
    let owes : held_by three (told_in tiny again) 22 0 ≡ 3 = refl in
    record { len = 3; within = omega (arith, count); held_kept = omega (arith, owes); left_is = refl }

on_store : AreOnOneStore tiny [] (cut ∷ again ∷ [])
on_store = (refl, cut-goes, (refl, again-goes, tt))

first-acknowledged : IsAcknowledged tiny cut 0
unfolding digits serde_json_on_literals tiny
first-acknowledged = omega arith

third-acknowledged : IsAcknowledged tiny cut 2
unfolding digits serde_json_on_literals tiny
third-acknowledged =
    let bytes : length (flat_map reply_text (take 2 (told_in tiny cut).said)) ≡ 33 = refl in
    omega (arith, bytes)

-- ---- the premises of the laws hold of them

starts : AreLines tiny [] (cut ∷ again ∷ []) (Does (Run (start (codes "a")))) (EntryOf 2 (codes "a")) (Does (Run (start (codes "a")))) (EntryOf 2 (codes "a"))
unfolding digits serde_json_on_literals tiny
starts = record {
  on_store = on_store;
  a = 0;
  b = 1;
  k = 0;
  l = 0;
  early = cut;
  late = again;
  early_is = refl;
  late_is = refl;
  replied = record { line_is = refl; reply_is = refl };
  replied' = record { line_is = refl; reply_is = refl };
  outlives = acknowledged (omega arith) first-acknowledged;
}

results : AreLines tiny [] (cut ∷ again ∷ []) (Does (ShowStatus (codes "a"))) (Row (codes "a") ended) (Does (ShowStatus (codes "a"))) (Row (codes "a") ended)
unfolding digits serde_json_on_literals tiny
results = record {
  on_store = on_store;
  a = 0;
  b = 1;
  k = 2;
  l = 1;
  early = cut;
  late = again;
  early_is = refl;
  late_is = refl;
  replied = record { line_is = refl; reply_is = refl };
  replied' = record { line_is = refl; reply_is = refl };
  outlives = acknowledged (omega arith) third-acknowledged;
}

limits : AllByRecursion KeepsLimits (cut ∷ again ∷ [])
limits = (
  record { text = omega arith; lines = (tt, (tt, (tt, (tt, tt)))) },
  (record { text = omega arith; lines = (tt, (tt, tt)) }, tt),
)

one_on_store : IsOneOnStore tiny again
one_on_store = record { first = []; made = tt; calls = cut ∷ again ∷ []; on_store = on_store; limits = limits; place = 1; is = refl }
