-- An entry that was committed without a conflict follows the history.
use Rattle.std.proofs.Common.{◌≡◌, ℕ, ◌+◌, ◌<◌, ◌≤◌, List, [], ◌∷◌, ◌++◌, length, map, take, drop, fold, Option, Some, None, refl, sym, ap, subst, ◌∙◌, arith, cond, true, false, Bool, length-append, nat_lt, zero, suc, slice_get}
use Rattle.std.specs.Prelude.{◌&&◌, ◌↔◌, Contains}
use Rattle.std.specs.List.{AllByRecursion}
use Rattle.std.proofs.lemmas.List.{take-append-le, map-append}
use Rattle.std.proofs.lemmas.Bool.Decides.{nat_tests}
use Rattle.r3_gate.specs.Log.{size_of}
use Rattle.r3_gate.specs.Gate.{Tracks}
use Rattle.r3_rows.specs.declared.rows.Key.{Key}
use Rattle.r3_rows.specs.declared.rows.Cell.{Cell}
use Rattle.r3_entry.specs.declared.entry.Entry.{Entry}
use Rattle.r3_entry.specs.History.{version_at, writes_key}
use Rattle.r3_entry.specs.Bytes.{entry, size}
use Rattle.r3_entry.specs.Formed.{Follows, IsFormed}
use Rattle.r3_chain.specs.Versions.{Versions}
use Rattle.r3_snap.specs.Conflicts.{earlier, keys_of}
use Rattle.r3_formed.specs.Past.{StandFor, all_installed, first_from, first_write, first_conflict}
use Rattle.r3_formed.specs.Load.{payloads}
use Rattle.r3_store.specs.Holds.{Holds, MayFollow}
use Rattle.r3_formed.specs.Answers.{text_of, text_at, program_texts}
use Rattle.r3_store.specs.declared.store.Store.{Store}
use Rattle.r3_store.proofs.Publishes.{next_number, payloads_join}
use Rattle.r3_store.proofs.Images.{size_is}

no_write : (j snap : ℕ) (q : Key) (h : List Entry) → first_from j snap q h ≡ None → (i : ℕ) (e : Entry) → snap < j + i → slice_get h i ≡ Some e → writes_key e q ≡ false
no_write j snap q [] none i e lt at = absurd cc
no_write j snap q (x ∷ xs) none zero e lt at =
    let here : nat_lt snap j ≡ true = grind (arith, nat_tests) in
    let same : x ≡ e = cc in
    let tested : cond (true && writes_key x q) (Some j) (first_from (j + 1) snap q xs) ≡ None = ap (λ b. cond (b && writes_key x q) (Some j) (first_from (j + 1) snap q xs)) (sym here) ∙ none in
    subst (λ (y : Entry). writes_key y q ≡ false) same (of_test (writes_key x q) j (first_from (j + 1) snap q xs) tested)
  where
    of_test : (b : Bool) (n : ℕ) (o : Option ℕ) → cond (true && b) (Some n) o ≡ None → b ≡ false
    of_test true n o h = absurd cc
    of_test false n o h = refl
no_write j snap q (x ∷ xs) none (suc i) e lt at =
    no_write (j + 1) snap q xs (later (nat_lt snap j && writes_key x q) j (first_from (j + 1) snap q xs) none) i e (omega arith) at
  where
    later : (b : Bool) (n : ℕ) (o : Option ℕ) → cond b (Some n) o ≡ None → o ≡ None
    later true n o h = absurd cc
    later false n o h = h

none_earlier : (a b : Option ℕ) → earlier a b ≡ None → (a ≡ None) × (b ≡ None)
none_earlier None b e = (refl, e)
none_earlier (Some i) None e = absurd cc
none_earlier (Some i) (Some j) e = absurd cc

none_of : (h : List Entry) (snap : ℕ) (acc : Option ℕ) (ws : List (Key × Option Cell)) → fold (λ least key. earlier least (first_write h snap key)) acc (keys_of ws) ≡ None
    → (acc ≡ None) × AllByRecursion (λ w. first_write h snap w.0 ≡ None) ws
none_of h snap acc [] e = (e, tt)
none_of h snap acc (w ∷ ws) e =
    let rest : _ = none_of h snap (earlier acc (first_write h snap w.0)) ws e in
    let both : _ = none_earlier acc (first_write h snap w.0) rest.0 in
    (both.0, (both.1, rest.1))

abbrev pub WinsFirst : Type 0
WinsFirst = (h : List Entry) (key : Key) (s : ℕ) → (version_at h (length h) key ≤ s) ↔ ((i : ℕ) (e : Entry) → s ≤ i → slice_get h i ≡ Some e → writes_key e key ≡ false)

unwritten : WinsFirst → (h : List Entry) (snap : ℕ) (ws : List (Key × Option Cell)) → AllByRecursion (λ w. first_write h snap w.0 ≡ None) ws → AllByRecursion (λ w. version_at h (length h) w.0 ≤ snap) ws
unwritten law h snap [] a = tt
unwritten law h snap (w ∷ ws) a =
    ((law h w.0 snap).1 (λ i e le at. no_write 1 snap w.0 h a.0 i e (omega arith) at), unwritten law h snap ws a.1)

pub follows : WinsFirst → (h : List Entry) (e : Entry) → MayFollow h e → first_conflict h e.snap (keys_of e.writes) ≡ None → Follows h e
follows law h e may none = record {
  program = may.program;
  isolated = record { below = may.below; reads = may.reads; unwritten = unwritten law h e.snap e.writes (none_of h e.snap None e.writes none).1 };
  kinds = may.kinds;
  steps = may.steps;
  flows = may.flows;
  few_rows = may.few_rows;
  few_reads = may.few_reads;
}

drop_front : (k : ℕ) (h : List Entry) (e : Entry) → k ≤ length h → drop k (h ++ e ∷ []) ≡ drop k h ++ e ∷ []
drop_front zero h e le = refl
drop_front (suc k) [] e le = absurd (omega arith)
drop_front (suc k) (x ∷ xs) e le = drop_front k xs e (omega arith)

-- the entry e is number n: its record is written behind those of h, and its writes are versions
pub record Logs {D : Type 0} (told_size : D → Option ℕ) (told_image : D → Option (List ℕ)) (may_leave : D → List ℕ → Type 0) (desk : D) (old new : Store) (h : List Entry) (settled : ℕ) (e : Entry) (n : ℕ) : Type 0 where
  pub number : n ≡ length h + 1
  pub tracks : Tracks told_size told_image may_leave desk new.gate (payloads (take settled h)) (payloads (drop settled h) ++ entry e ∷ [])
  pub versions : new.chains.versions ≡ all_installed n e.writes old.chains.versions
  pub oldest : new.oldest ≡ old.oldest
  pub pins : new.pins ≡ old.pins
  pub texts : map text_of new.texts.items ≡ map text_of old.texts.items ++ text_at n e.act

pub numbers : {D : Type 0} (told_size : D → Option ℕ) (told_image : D → Option (List ℕ)) (may_leave : D → List ℕ → Type 0) (d : D) (s : Store) (h : List Entry) (k : ℕ)
    → Holds told_size told_image may_leave d s h k → (s.gate.count ≡ length h) × (s.gate.end ≡ size h)
numbers told_size told_image may_leave d s h k holds = (holds.stands.count, holds.tracks.end ∙ ap size_of (payloads_join h k) ∙ size_is h)

-- versions and texts with those of the next entry
abbrev pub Grown : Type 0
Grown = (es : Versions Key Cell) (h : List Entry) (oldest : ℕ) (e : Entry) → StandFor es h oldest → StandFor (all_installed (length h + 1) e.writes es) (h ++ e ∷ []) oldest

abbrev pub Told : Type 0
Told = (h : List Entry) (e : Entry) → program_texts (h ++ e ∷ []) ≡ program_texts h ++ text_at (length h + 1) e.act

module _ {D : Type 0} (told_size : D → Option ℕ) (told_image : D → Option (List ℕ)) (may_leave : D → List ℕ → Type 0) where
  pub held_on : Grown → Told → (d f : D) (old new : Store) (h : List Entry) (k n : ℕ) (e : Entry) → Holds told_size told_image may_leave d old h k
      → Logs told_size told_image may_leave f old new h k e n → IsFormed (h ++ e ∷ []) → Holds told_size told_image may_leave f new (h ++ e ∷ []) k
  held_on grown told d f old new h k n e holds logs formed =
      let long : length (h ++ e ∷ []) ≡ length h + 1 = length-append h (e ∷ []) in
      let front : take k h ≡ take k (h ++ e ∷ []) = sym (take-append-le k h (e ∷ []) holds.within) in
      let back : payloads (drop k h) ++ entry e ∷ [] ≡ payloads (drop k (h ++ e ∷ [])) = sym (map-append _ (drop k h) (e ∷ [])) ∙ ap payloads (sym (drop_front k h e holds.within)) in
      let versions : new.chains.versions ≡ all_installed (length h + 1) e.writes old.chains.versions = logs.versions ∙ ap (λ (j : ℕ). all_installed j e.writes old.chains.versions) logs.number in
      record {
        stands = record {
          formed = formed;
          count = next_number told_size told_image may_leave d f old new.gate h k (entry e) holds logs.tracks ∙ sym long;
          versions = subst (λ es. StandFor es (h ++ e ∷ []) new.oldest) (sym versions)
              (subst (StandFor (all_installed (length h + 1) e.writes old.chains.versions) (h ++ e ∷ [])) (sym logs.oldest) (grown old.chains.versions h old.oldest e holds.stands.versions));
          oldest = omega (arith, holds.stands.oldest, logs.oldest);
          pins = λ s there. let was : _ = holds.stands.pins s (subst (λ (l : List ℕ). Contains l s) logs.pins there) in (omega (arith, was.0, logs.oldest), omega (arith, was.1));
          texts = logs.texts ∙ ap (λ ts. ts ++ text_at n e.act) holds.stands.texts ∙ ap (λ (j : ℕ). program_texts h ++ text_at j e.act) logs.number ∙ sym (told h e);
        };
        within = omega (arith, holds.within);
        settled_formed = subst IsFormed front holds.settled_formed;
        tracks = subst (λ (ps : List (List ℕ)). Tracks told_size told_image may_leave f new.gate ps (payloads (drop k (h ++ e ∷ [])))) (ap payloads front)
            (subst (Tracks told_size told_image may_leave f new.gate (payloads (take k h))) back logs.tracks);
      }
