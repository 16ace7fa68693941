-- Worked cases of steps of the machine as a relation, one and several.
use Rattle.std.proofs.Common.{◌≡◌, ℕ, List, [], ◌∷◌, ◌++◌, length, Option, Some, None, refl, ap, arith}
use Rattle.std.specs.Prelude.{codes}
use Rattle.r3_value.specs.declared.value.Val.TheVariants.{Null}
use Rattle.r3_value.specs.declared.value.Outcome.{Outcome}
use Rattle.r3_value.specs.declared.value.Outcome.TheVariants as outcomes
use Rattle.r3_entry.specs.declared.entry.Entry.{Entry}
use Rattle.r3_model.specs.Event.{Turn, Nothing, Reply, Entry as EntryReply, Began, Again, Nil, Call}
use Rattle.r3_model.specs.Machine.{State, Out}
use Rattle.r3_model.specs.Goes.{Steps, Goes}
use Rattle.r3_model.proofs.Bank.{bank, args2}
use Rattle.r3_model.proofs.WorkedReplay.{int, txt, m1}
use Rattle.r3_worked.proofs.Made.{before, paid, told}

abbrev quiet : List Entry → State
quiet h = record { history = h; begun = [] }

-- the snapshot of m1 is open
abbrev opened : State
opened = record { history = before; begun = (m1, 3) ∷ [] }

abbrev call : Option Outcome → Call
call answer = record { id = m1; n = 1; name = codes "notify"; args = args2 (txt (codes "b")) (int 3); answer = answer }

abbrev null : Option Outcome
null = Some (outcomes.Value Null)

abbrev paying : State
paying = quiet (before ++ paid 3 3 ∷ [])

abbrev telling : State
telling = quiet (before ++ paid 3 3 ∷ told ∷ [])

-- ---- one step

it_begins : Steps bank (quiet before) (Turn m1) (Began 3) [] opened
it_begins = record { answer = None; is = refl }

it_commits : Steps bank opened (Turn m1) (EntryReply 4) [] paying
it_commits = record { answer = None; is = refl }

it_calls : Steps bank paying (Turn m1) (EntryReply 5) (call null ∷ []) telling
it_calls = record { answer = null; is = refl }

-- a call that fails leaves all as it was, and is told
it_calls_in_vain : Steps bank paying (Turn m1) Again (call None ∷ []) paying
it_calls_in_vain = record { answer = None; is = refl }

abbrev snap_in : Reply → ℕ
snap_in (Began s) = s
snap_in r = 0

another_reply : Steps bank (quiet before) (Turn m1) (Began 2) [] opened → ⊥
another_reply s = let z : 3 ≡ 2 = ap (λ (o : Out). snap_in o.reply) s.is in absurd (omega (arith, z))

a_snapshot_that_is_not_opened : Steps bank (quiet before) (Turn m1) (Began 3) [] (quiet before) → ⊥
a_snapshot_that_is_not_opened s = let z : 1 ≡ 0 = ap (λ (o : Out). length o.state.begun) s.is in absurd (omega (arith, z))

-- whatever the answer is, the call is told
a_call_that_is_not_told : Steps bank paying (Turn m1) (EntryReply 5) [] telling → ⊥
a_call_that_is_not_told s = let z : 1 ≡ 0 = ap (λ (o : Out). length o.calls) s.is in absurd (omega (arith, z))

-- ---- several

it_goes : Goes bank (quiet before) (Turn m1 ∷ Turn m1 ∷ Turn m1 ∷ []) (Began 3 ∷ EntryReply 4 ∷ EntryReply 5 ∷ []) (call null ∷ []) telling
it_goes = (opened, [], call null ∷ [], it_begins, refl, (paying, [], call null ∷ [], it_commits, refl, (telling, call null ∷ [], [], it_calls, refl, (refl, refl))))

-- no event, and nothing happens
nothing_goes : Goes bank opened [] [] [] opened
nothing_goes = (refl, refl)

a_state_that_no_event_made : Goes bank opened [] [] [] (quiet before) → ⊥
a_state_that_no_event_made g = let z : 0 ≡ 1 = ap (λ (st : State). length st.begun) g.0 in absurd (omega (arith, z))

a_call_that_no_event_made : Goes bank opened [] [] (call null ∷ []) opened → ⊥
a_call_that_no_event_made g = let z : 1 ≡ 0 = ap (λ (ks : List Call). length ks) g.1 in absurd (omega (arith, z))

-- each event has its reply
a_reply_too_few : Goes bank opened (Nothing ∷ []) [] [] opened → ⊥
a_reply_too_few g = absurd g

a_reply_too_many : Goes bank opened [] (Nil ∷ []) [] opened → ⊥
a_reply_too_many g = absurd g

-- replies in another order
an_entry_before_it_began : (calls : List Call) (new : State) → Goes bank (quiet before) (Turn m1 ∷ Turn m1 ∷ []) (EntryReply 4 ∷ Began 3 ∷ []) calls new → ⊥
an_entry_before_it_began calls new g = let z : 3 ≡ 0 = ap (λ (o : Out). snap_in o.reply) g.3.is in absurd (omega (arith, z))
