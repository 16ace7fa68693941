-- Worked cases of open snapshots and valid states.
use Rattle.std.proofs.Common.{◌≡◌, ℕ, ◌≤◌, Bool, true, false, cond, List, [], ◌∷◌, ◌++◌, map, Option, Some, None, refl, sym, ap, subst, ◌∙◌, arith, lit≤, lit<}
use Rattle.std.specs.Prelude.{codes, unwrap_or}
use Rattle.std.specs.Str.{is_utf8, chars}
use lib.Utf8.{encode}
use Rattle.std.specs.Ordering.{is_eq}
use Rattle.std.specs.FinMap.{nat_cmp-IsAntisymmetric, slice_cmp-IsAntisymmetric}
use Rattle.std.specs.declared.cmp.Ordering.TheVariants.{Less, Equal, Greater}
use Rattle.r3_value.specs.declared.value.Outcome.TheVariants as outcomes
use Rattle.r3_rows.specs.Keys.{bytes_cmp}
use Rattle.r3_rows.specs.declared.rows.FlowRow.{FlowRow}
use Rattle.r3_rows.specs.declared.rows.Status.TheVariants.{Enqueued, Pending, Cancelled}
use Rattle.r3_entry.specs.declared.entry.Act.TheVariants as acts
use Rattle.r3_entry.specs.declared.entry.Entry.{Entry}
use Rattle.r3_entry.specs.Formed.{IsFormed}
use Rattle.r3_entry.specs.Bytes.{status_code}
use Rattle.fn_tree.specs.declared.flow.AskKind.{AskKind}
use Rattle.fn_tree.specs.declared.flow.AskKind.TheVariants as asking
use Rattle.fn_tree.specs.declared.flow.FlowEnd.{FlowEnd}
use Rattle.fn_tree.specs.declared.flow.FlowEnd.TheVariants.{Done, Asks, Unexpected}
use Rattle.r3_model.specs.Language.{Text}
use Rattle.r3_model.specs.Rows.{steps_at, answer_of}
use Rattle.r3_model.specs.Machine.{State}
use Rattle.r3_model.specs.Valid.{IsOpen, AreOpen, IsValid}
use Rattle.r3_model.proofs.Bank.{bank}
use Rattle.r3_model.proofs.WorkedReplay.{m1, d1, plain, flow, args_m1}
use Rattle.r3_worked.proofs.Made.{paid, before}

abbrev row : FlowRow
row = record {
  status = Pending;
  function = codes "move";
  args = args_m1;
  outcome = None;
  queue = None;
  started = 3;
  attempts = 0;
  parent = None;
}

-- ---- a snapshot on which the workflow asked for its transaction

it_is_open : IsOpen bank before m1 3
it_is_open = record {
  past = lit≤ tt;
  row = row;
  there = refl;
  pending = refl;
  request = record { n = 0; kind = asking.Txn; name = codes "pay"; args = args_m1 };
  asks = refl;
  kind = refl;
  own = refl;
}

past_the_history : IsOpen bank before m1 4 → ⊥
past_the_history o = let z : 4 ≤ 3 = o.past in absurd (omega (arith, z))

abbrev is_there : Option FlowRow → ℕ
is_there None = 0
is_there (Some r) = 1

-- the workflow isn't started yet
before_its_start : IsOpen bank before m1 2 → ⊥
before_its_start o = let z : 0 ≡ 1 = ap is_there o.there in absurd (omega (arith, z))

abbrev status_or : Option FlowRow → ℕ
status_or None = 9
status_or (Some r) = status_code r.status

abbrev cancelled : List Entry
cancelled = before ++ plain 3 (acts.Cancel m1) (flow m1 (codes "move") args_m1 Cancelled 3 None ∷ []) ∷ []

of_a_cancelled_one : IsOpen bank cancelled m1 4 → ⊥
of_a_cancelled_one o = let z : 4 ≡ 1 = ap status_or o.there ∙ ap status_code o.pending in absurd (omega (arith, z))

abbrev number_or_none : Option ℕ → ℕ
number_or_none None = 0
number_or_none (Some j) = j

-- its row was written since
before_its_cancel : IsOpen bank cancelled m1 3 → ⊥
before_its_cancel o = let z : 4 ≡ 0 = ap number_or_none o.own in absurd (omega (arith, z))

-- it asks for a call of the outside
abbrev kind_of : AskKind → ℕ
kind_of asking.Txn = 1
kind_of asking.Outside = 2
kind_of asking.Child = 3
kind_of asking.Await = 4

abbrev asks_kind : FlowEnd → ℕ
asks_kind (Done o) = 0
asks_kind (Asks q) = kind_of q.kind
asks_kind (Unexpected n recorded asked) = 0

abbrev paying : List Entry
paying = before ++ paid 3 3 ∷ []

abbrev end_for : Option FlowRow → FlowEnd
end_for None = Done (outcomes.Failure [])
end_for (Some r) = bank.flow r.function r.args (map answer_of (steps_at paying 4 m1))

of_another_ask : IsOpen bank paying m1 4 → ⊥
of_another_ask o = let z : 2 ≡ 1 = ap (λ (r : Option FlowRow). asks_kind (end_for r)) o.there ∙ ap asks_kind o.asks ∙ ap kind_of o.kind in absurd (omega (arith, z))

-- ---- the open snapshots of a state

abbrev is_some_number : Option ℕ → ℕ
is_some_number None = 0
is_some_number (Some n) = 1

abbrev opened : List (Text × ℕ) → State
opened begun = record { history = before; begun = begun }

same_text : (x y : Text) → bytes_cmp x y ≡ Equal → x ≡ y
same_text = slice_cmp-IsAntisymmetric nat_cmp-IsAntisymmetric

one_is_open : AreOpen bank (opened ((m1, 3) ∷ []))
one_is_open = record {
  sorted = refl;
  each = λ id s. elim (bytes_cmp id m1) as (λ o. bytes_cmp id m1 ≡ o → cond (is_eq o) (Some 3) None ≡ Some s → IsOpen bank before id s) [
    | Less ↦ λ t is. (let z : 0 ≡ 1 = ap is_some_number is in absurd (omega (arith, z)))
    | Equal ↦ λ t is. (
        let n : 3 ≡ s = ap (λ (o : Option ℕ). unwrap_or o 0) is in
        subst (λ (i : Text). IsOpen bank before i s) (sym (same_text id m1 t)) (subst (λ (k : ℕ). IsOpen bank before m1 k) n it_is_open))
    | Greater ↦ λ t is. (let z : 0 ≡ 1 = ap is_some_number is in absurd (omega (arith, z)))
  ] refl;
}

abbrev is_yes : Bool → ℕ
is_yes true = 1
is_yes false = 0

not_in_their_order : AreOpen bank (opened ((m1, 3) ∷ (d1, 3) ∷ [])) → ⊥
not_in_their_order o = let z : 0 ≡ 1 = ap is_yes o.sorted in absurd (omega (arith, z))

of_no_workflow : AreOpen bank (opened ((d1, 3) ∷ [])) → ⊥
of_no_workflow o = let z : 0 ≡ 1 = ap is_there (o.each d1 3 refl).there in absurd (omega (arith, z))

-- ---- a valid state

abbrev is_some_entry : List Entry → ℕ
is_some_entry [] = 0
is_some_entry (e ∷ es) = 1

not_enqueued : Pending ≡ Enqueued → ⊥
not_enqueued is = let z : 1 ≡ 0 = ap status_code is in absurd (omega (arith, z))

formed : IsFormed before
unfolding is_utf8 chars encode
formed = record {
  entries = (
    record { program = (refl, refl, refl, refl); isolated = record { below = lit≤ tt; reads = tt; unwritten = tt }; kinds = tt; steps = tt; flows = tt; few_rows = lit≤ tt; few_reads = lit≤ tt },
    (
      record { program = refl; isolated = record { below = lit≤ tt; reads = tt; unwritten = (lit≤ tt, (lit≤ tt, tt)) }; kinds = (tt, (tt, tt)); steps = (tt, (tt, tt)); flows = (tt, (tt, tt)); few_rows = lit≤ tt; few_reads = lit≤ tt },
      (
        record { program = refl; isolated = record { below = lit≤ tt; reads = tt; unwritten = (lit≤ tt, tt) }; kinds = (tt, tt); steps = (tt, tt); flows = ((tt, (λ is. absurd (not_enqueued is)), lit≤ tt), tt); few_rows = lit≤ tt; few_reads = lit≤ tt },
        tt,
      ),
    ),
  );
  few = lit≤ tt;
  small = lit≤ tt;
  payloads = (lit≤ tt, (lit≤ tt, (lit≤ tt, tt)));
  limits = (
    record { act = record { long = lit≤ tt; short = lit≤ tt; utf8 = refl }; snap = lit< tt; reads_fit = lit< tt; reads = tt; writes_fit = lit< tt; writes = tt; rising = refl },
    (
      record {
        act = tt;
        snap = lit< tt;
        reads_fit = lit< tt;
        reads = tt;
        writes_fit = lit< tt;
        writes = (
          ((record { long = lit≤ tt; short = lit≤ tt; utf8 = refl }, record { long = lit≤ tt; short = lit≤ tt; utf8 = refl }), record { proper = omega arith; small = lit≤ tt; shallow = lit≤ tt }),
          (((record { long = lit≤ tt; short = lit≤ tt; utf8 = refl }, record { long = lit≤ tt; short = lit≤ tt; utf8 = refl }), record { proper = omega arith; small = lit≤ tt; shallow = lit≤ tt }), tt),
        );
        rising = refl;
      },
      (
        record {
          act = record { long = lit≤ tt; short = lit≤ tt; utf8 = refl };
          snap = lit< tt;
          reads_fit = lit< tt;
          reads = tt;
          writes_fit = lit< tt;
          writes = (
            (
              record { long = lit≤ tt; short = lit≤ tt; utf8 = refl },
              record {
                function = record { long = lit≤ tt; short = lit≤ tt; utf8 = refl };
                args = (record { proper = (refl, (refl, (omega arith, tt))); small = lit≤ tt; shallow = lit≤ tt }, lit≤ tt);
                outcome = tt;
                queue = tt;
                started = (lit≤ tt, lit≤ tt);
                attempts = lit≤ tt;
                parent = tt;
              },
            ),
            tt,
          );
          rising = refl;
        },
        tt,
      ),
    ),
  );
}

it_is_valid : IsValid bank (opened ((m1, 3) ∷ []))
it_is_valid = record {
  formed = formed;
  begins = λ is. (let z : 1 ≡ 0 = ap is_some_entry is in absurd (omega (arith, z)));
  snapshots = one_is_open;
}

-- ---- states that aren't valid

an_empty_history : IsValid bank (record { history = []; begun = [] }) → ⊥
an_empty_history v = v.begins refl

no_program_first : IsValid bank (record { history = plain 0 acts.Load [] ∷ []; begun = [] }) → ⊥
no_program_first v = let z : 0 ≡ 1 = ap is_yes v.formed.entries.0.program.0 in absurd (omega (arith, z))

a_snapshot_of_none : IsValid bank (opened ((d1, 3) ∷ [])) → ⊥
a_snapshot_of_none v = of_no_workflow v.snapshots
