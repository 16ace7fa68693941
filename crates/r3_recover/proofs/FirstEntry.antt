-- The entry of a program, the first of a store.
use Rattle.std.proofs.Common.{◌≡◌, ℕ, ◌+◌, ◌<◌, ◌≤◌, ◌^◌, false, [], ◌∷◌, length, None, refl, ap, arith}
use Rattle.std.specs.Prelude.{IsTrue, nat_lt}
use Rattle.std.specs.Str.{is_utf8}
use Rattle.std.proofs.lemmas.Bool.Decides.{nat_tests}
use Rattle.r3_entry.specs.declared.entry.Entry.{Entry}
use Rattle.r3_entry.specs.Bytes.{entry, size}
use Rattle.r3_entry.specs.Formed.{Follows}
use Rattle.r3_entry.specs.Limits.{IsEntry}
use Rattle.r3_model.specs.Acts.{program_entry}
use Rattle.r3_model.specs.Event.{Append, Entry as EntryReply}
use Rattle.r3_model.specs.Goes.{Steps}
use Rattle.r3_model.specs.Language.{Language, Text}
use Rattle.r3_model.specs.Machine.{Out, State, entered, full_of}
use Rattle.r3_model.specs.Run.{from_state, restarted}
use Rattle.r3_gate.specs.declared.fault.Limit.{Limit}
use Rattle.r3_gate.specs.declared.fault.Limit.TheVariants.{Entries, Bytes}
use Rattle.r3_laws.specs.OfStates.{LightFits}
use Rattle.r3_recover.specs.Opened.{OpensTo}
use Rattle.r3_recover.proofs.Nexts.{next-comes}

module _ (text : Text) where
  abbrev pub first_entry : Entry
  first_entry = program_entry [] text

  pub first-follows : Follows [] first_entry
  first-follows = record {
    program = (refl, refl, refl, refl);
    isolated = record { below = omega arith; reads = tt; unwritten = tt };
    kinds = tt;
    steps = tt;
    flows = tt;
    few_rows = omega arith;
    few_reads = omega arith;
  }

  pub first-limits : IsTrue (is_utf8 text) → length text ≤ 1048576 → IsEntry first_entry
  first-limits utf8 short = record {
    act = record { long = omega arith; short = omega (arith, short); utf8 = utf8 };
    snap = omega arith;
    reads_fit = omega arith;
    reads = tt;
    writes_fit = omega arith;
    writes = tt;
    rising = refl;
  }

  pub first-payload : LightFits → IsEntry first_entry → length (entry first_entry) ≤ 2 ^ 23
  first-payload fits is = fits first_entry is (record { few_reads = omega arith; few_writes = omega arith; few_flows = omega arith })

  pub first-room : length (entry first_entry) ≤ 2 ^ 23 → full_of [] first_entry ≡ None
  first-room small =
      let u : nat_lt (2 ^ 30) (size [] + 5 + length (entry first_entry)) ≡ false = grind (arith, nat_tests) in
      rw u refl

  -- so the machine's opening of an empty history comes to it
  pub first-opens : (P : Language) → full_of [] first_entry ≡ None → OpensTo P text [] (restarted (first_entry ∷ []))
  first-opens P room = λ answers.
      let st : State = restarted [] in
      let s : Steps P st (Append text) (EntryReply 1) [] (restarted (first_entry ∷ [])) = record {
        answer = None;
        is = ap (λ o. let after = entered st first_entry (EntryReply 1) o in let x : Out = record { state = after.0; reply = after.1; calls = [] } in x) room;
      } in
      (next-comes P (from_state st answers) answers st (restarted (first_entry ∷ [])) (Append text) (EntryReply 1) [] s (refl, refl)).comes

-- for which there is always room
pub none-full : (few : Limit) (F : Limit → Type 0) (small : ℕ) → small ≤ 2 ^ 23 → F few → (F Entries → 1000000 ≤ 0) → (F Bytes → (0 < 1000000) × (2 ^ 30 < 9 + (5 + small))) → ⊥
none-full Entries F small le is entries bytes = omega (arith, entries is)
none-full Bytes F small le is entries bytes = omega (arith, (bytes is).1, le)
