-- What a crash leaves of one event after others, and what the desk tells of their calls.
use Rattle.std.proofs.Common.{◌≡◌, ℕ, ◌+◌, ◌-◌, ◌*◌, ◌≤◌, List, [], ◌++◌, map, length, take, Option, Some, None, refl, sym, ap, ◌∙◌, subst, ⊎_elim, arith, length-append, append-nil}
use Rattle.std.proofs.lemmas.List.{append_assoc, map-append, length-map, take-append-le}
use Rattle.std.proofs.Math.Seq.{take-append_seam}
use Rattle.std.specs.Option.{option_map}
use Rattle.r3_entry.specs.declared.entry.Entry.{Entry}
use Rattle.r3_entry.specs.Image.{IsHistoryOf}
use Rattle.r3_desk.specs.Asked as desk
use Rattle.r3_desk.specs.Crash.{Reach}
use Rattle.r3_desk.specs.Disk.{told_len}
use Rattle.r3_desk.specs.Moments.{leaves_then}
use Rattle.r3_model.specs.Event.{Call}
use Rattle.r3_model.specs.Held.{Mark, asked_by}
use Rattle.r3_exec.specs.Does.{Leaves, SyncsWithin, told_of, told_after}
use Rattle.r3_recover.specs.Kept.{IsKept, LeavesKept}
use Rattle.r3_recover.specs.Rounds.{AreWithin}
use Rattle.r3_recover.proofs.Owing.{owed-within, owed-first, within-more, within-higher}

-- a prefix of a history is one of the history with more behind it
pub kept-first : (h xs : List Entry) (k : ℕ) (marks more : List Mark) (j : ℕ) (c : List ℕ) → j ≤ asked_by marks → IsKept h k marks j c → IsKept (h ++ xs) k (marks ++ more) j c
kept-first h xs k marks more j c le p = record {
  len = p.len;
  within = omega (arith, p.within, length-append h xs);
  settled_kept = p.settled_kept;
  owed_kept = omega (arith, owed-first marks more j le, p.owed_kept);
  history_of = subst (λ (es : List Entry). IsHistoryOf es c) (sym (take-append-le p.len h xs p.within)) p.history_of;
}

-- the whole history is a prefix
pub kept-all : (h xs : List Entry) (k : ℕ) (marks : List Mark) (j : ℕ) (c : List ℕ) → k ≤ length h → AreWithin (length h) marks → IsHistoryOf h c → IsKept (h ++ xs) k marks j c
kept-all h xs k marks j c le w is = record {
  len = length h;
  within = omega (arith, length-append h xs);
  settled_kept = le;
  owed_kept = owed-within (length h) marks 0 j w;
  history_of = subst (λ (es : List Entry). IsHistoryOf es c) (sym (take-append_seam h xs)) is;
}

-- and so is what is settled
pub kept-settled : (h xs : List Entry) (k now : ℕ) (marks more : List Mark) (j : ℕ) (c : List ℕ) → k ≤ now → now ≤ length h → AreWithin now marks → j ≤ asked_by marks → IsHistoryOf (take now h) c → IsKept (h ++ xs) k (marks ++ more) j c
kept-settled h xs k now marks more j c le within w few is = kept-first h xs k marks more j c few (record {
  len = now;
  within = within;
  settled_kept = le;
  owed_kept = owed-within now marks 0 j w;
  history_of = is;
})

module _ {D : Type 0} (may_leave : D → List ℕ → Type 0) (moment : D → ℕ) (reach : D → Reach) (said : D → Option (List ℕ)) (asked : D → Option (List desk.Call)) where
  pub leaves-more : (old mid new : D) (h xs : List Entry) (k now : ℕ) (marks more : List Mark)
      → LeavesKept moment reach said asked old mid h k marks → Leaves moment reach said asked mid new h now
      → said mid ≡ said old → told_len (asked old) ≤ told_len (asked mid) → told_len (asked mid) ≤ told_len (asked old) + asked_by marks
      → told_len (asked mid) ≤ told_len (asked new)
      → k ≤ now → now ≤ length h → AreWithin now marks → AreWithin (length h) more
      → LeavesKept moment reach said asked old new (h ++ xs) k (marks ++ more)
  leaves-more old mid new h xs k now marks more first second same_said from to on le within kept_now kept_more =
      leaves_then moment reach may_leave said asked old mid new _ _ _ first second
      (λ c n m p. (p.0, p.1, omega (arith, p.2, on), kept-first h xs k marks more (m - told_len (asked old)) c (omega (arith, p.1, p.2, to)) p.3))
      (λ c n m q.
      let j : ℕ = m - told_len (asked old) in (
        q.0 ∙ ap (λ (s : Option (List ℕ)). told_len s) same_said,
        omega (arith, q.1.0, from),
        q.1.1,
        ⊎_elim
            (λ all. kept-all h xs k (marks ++ more) j c (omega (arith, le, within)) (within-more (length h) marks more (within-higher now (length h) marks within kept_now) kept_more) all)
            (λ was. kept-settled h xs k now marks more j c le within kept_now (omega (arith, was.1, to)) was.0)
            q.1.2,
      ))

-- ---- calls that are told

pub told-append : (o : Option (List desk.Call)) (ks ks' : List Call) → told_after (told_after o ks) ks' ≡ told_after o (ks ++ ks')
told-append None ks ks' = refl
told-append (Some k) ks ks' = ap (λ (x : List desk.Call). Some x) (append_assoc k (map told_of ks) (map told_of ks') ∙ ap (λ (x : List desk.Call). k ++ x) (sym (map-append told_of ks ks')))

pub told-none : (o : Option (List desk.Call)) → o ≡ told_after o []
told-none None = refl
told-none (Some k) = ap (λ (x : List desk.Call). Some x) (sym (append-nil k))

pub told-more : (o : Option (List desk.Call)) (ks : List Call) → told_len o ≤ told_len (told_after o ks)
told-more None ks = omega arith
told-more (Some k) ks = omega (arith, length-append k (map told_of ks))

pub told-most : (o : Option (List desk.Call)) (ks : List Call) → told_len (told_after o ks) ≤ told_len o + length ks
told-most None ks = omega arith
told-most (Some k) ks = omega (arith, length-append k (map told_of ks), length-map ks told_of)

-- ---- syncs

syncs-twice : (a : Option ℕ) (m n : ℕ) → option_map (λ k. k + n) (option_map (λ k. k + m) a) ≡ option_map (λ k. k + (m + n)) a
syncs-twice None m n = refl
syncs-twice (Some k) m n = ap (λ (x : ℕ). Some x) (let e : k + m + n ≡ k + (m + n) = omega arith in e)

pub few-then : (a b c : Option ℕ) (m n : ℕ) → SyncsWithin a b (2 * m) → SyncsWithin b c (2 * n) → SyncsWithin a c (2 * (m + n))
few-then a b c m n first second = (
  first.0 + second.0,
  omega (arith, first.1, second.1),
  second.2 ∙ ap (λ (o : Option ℕ). option_map (λ k. k + second.0) o) first.2 ∙ syncs-twice a first.0 second.0,
)

pub few-by : (a b c : Option ℕ) (m n most : ℕ) → SyncsWithin a b m → SyncsWithin b c n → m + n ≤ most → SyncsWithin a c most
few-by a b c m n most first second le = (
  first.0 + second.0,
  omega (arith, first.1, second.1, le),
  second.2 ∙ ap (λ (o : Option ℕ). option_map (λ k. k + second.0) o) first.2 ∙ syncs-twice a first.0 second.0,
)

pub few-more : (a b : Option ℕ) (m most : ℕ) → SyncsWithin a b m → m ≤ most → SyncsWithin a b most
few-more a b m most few le = (few.0, omega (arith, few.1, le), few.2)
