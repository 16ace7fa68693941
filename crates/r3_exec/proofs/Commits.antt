-- A commit of which nothing came, and for want of which room.
use Rattle.std.proofs.Common.{◌≡◌, ℕ, ◌+◌, ◌<◌, ◌≤◌, ◌^◌, nat_le, nat_lt, Bool, true, false, if◌then◌else◌, List, length, map, take, drop, Option, Some, None, Contains, refl, sym, ap, ◌∙◌, subst, arith}
use Rattle.std.proofs.lemmas.Bool.Decides.{nat_tests}
use Rattle.r3_gate.specs.Gate.{Tracks}
use Rattle.r3_gate.specs.declared.gate.Gate.{Gate}
use Rattle.r3_gate.specs.declared.fault.Limit.{Limit as Room}
use Rattle.r3_gate.specs.declared.fault.Limit.TheVariants as rooms
use Rattle.r3_chain.specs.Versions.{Versions}
use Rattle.r3_rows.specs.declared.rows.Key.{Key}
use Rattle.r3_rows.specs.declared.rows.Cell.{Cell}
use Rattle.r3_entry.specs.declared.entry.Entry.{Entry}
use Rattle.r3_entry.specs.Bytes.{entry, size}
use Rattle.r3_store.specs.Holds.{Stands, SameStore}
use Rattle.r3_formed.specs.Past.{StandFor}
use Rattle.r3_formed.specs.Answers.{text_of}
use Rattle.r3_formed.specs.Load.{payloads}
use Rattle.r3_store.specs.declared.store.Store.{Store}
use Rattle.r3_model.specs.Event.{Entries, Bytes}
use Rattle.r3_model.specs.Machine.{Begun, full_of}
use Rattle.r3_exec.specs.Ends.{limit_of}
use Rattle.r3_exec.specs.Placed.{Keeping}
use Rattle.r3_exec.specs.declared.exec.Exec.{Exec}
use Rattle.r3_exec.proofs.Parts.{keeps_with}

pub no_entries : (h : List Entry) (e : Entry) → 1000000 ≤ length h → full_of h e ≡ Some Entries
no_entries h e le =
    let t : nat_le 1000000 (length h) ≡ true = grind (arith, nat_tests) in
    ap (λ (b : Bool). if b then Some Entries else if nat_lt (2 ^ 30) (size h + 5 + length (entry e)) then Some Bytes else None) t

no_bytes : (h : List Entry) (e : Entry) → length h < 1000000 → 2 ^ 30 < size h + (5 + length (entry e)) → full_of h e ≡ Some Bytes
no_bytes h e few large =
    let t : nat_le 1000000 (length h) ≡ false = grind (arith, nat_tests) in
    let larger : 2 ^ 30 < size h + 5 + length (entry e) = omega (arith, large) in
    let u : nat_lt (2 ^ 30) (size h + 5 + length (entry e)) ≡ true = grind (arith, nat_tests) in
    ap (λ (b : Bool). if b then Some Entries else if nat_lt (2 ^ 30) (size h + 5 + length (entry e)) then Some Bytes else None) t
    ∙ ap (λ (b : Bool). if b then Some Bytes else None) u

pub full_is : (h : List Entry) (e : Entry) (l : Room) → (l ≡ rooms.Entries → 1000000 ≤ length h)
    → (l ≡ rooms.Bytes → (length h < 1000000) × (2 ^ 30 < size h + (5 + length (entry e)))) → full_of h e ≡ Some (limit_of l)
full_is h e rooms.Entries entries bytes = no_entries h e (entries refl)
full_is h e rooms.Bytes entries bytes = let x = bytes refl in no_bytes h e x.0 x.1

-- ---- nothing that is seen has changed

same_stands : (old new : Store) (h : List Entry) → Stands old h → SameStore old new → Stands new h
same_stands old new h stands same = record {
  formed = stands.formed;
  count = ap (λ (g : Gate). g.count) same.gate ∙ stands.count;
  versions = subst (λ (es : Versions Key Cell). StandFor es h new.oldest) (sym same.versions)
      (subst (λ (o : ℕ). StandFor old.chains.versions h o) (sym same.oldest) stands.versions);
  oldest = omega (arith, same.oldest, stands.oldest);
  pins = λ s has.
      let was : Contains old.pins s = subst (λ (ps : List ℕ). Contains ps s) same.pins has in
      let x = stands.pins s was in
      (omega (arith, same.oldest, x.0), x.1);
  texts = ap (λ ts. map text_of ts) same.texts ∙ stands.texts;
}

module _ {D : Type 0} (told_size : D → Option ℕ) (told_image : D → Option (List ℕ)) (may_leave : D → List ℕ → Type 0) where
  pub still : (old new : D) (exec : Exec) (s : Store) (h : List Entry) (begun : Begun) (k : ℕ)
      → Keeping told_size told_image may_leave old exec h begun k → SameStore exec.store s → new ≡ old
      → Keeping told_size told_image may_leave new (record exec { store = s }) h begun k
  still old new exec s h begun k keeping same desk =
      let stands = same_stands exec.store s h keeping.keeps.store same in
      record {
        keeps = keeps_with exec h begun s keeping.keeps stands same.pins;
        holds = record {
          stands = stands;
          within = keeping.holds.within;
          settled_formed = keeping.holds.settled_formed;
          tracks = subst (λ (d : D). Tracks told_size told_image may_leave d s.gate (payloads (take k h)) (payloads (drop k h))) (sym desk)
              (subst (λ (g : Gate). Tracks told_size told_image may_leave old g (payloads (take k h)) (payloads (drop k h))) (sym same.gate) keeping.holds.tracks);
        };
      }
