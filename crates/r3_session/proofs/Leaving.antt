-- What a crash leaves while a line is done, and what the desk tells of its calls.
use Rattle.std.proofs.Common.{◌≡◌, inl, inr, ℕ, ◌+◌, ◌-◌, ◌≤◌, List, [], ◌++◌, map, length, take, Option, Some, None, refl, sym, ap, ◌∙◌, subst, ⊎_elim, arith, length-append, append-nil}
use Rattle.std.proofs.Math.Seq.{take-append_seam}
use Rattle.std.specs.Option.{option_map}
use Rattle.r3_entry.specs.declared.entry.Entry.{Entry}
use Rattle.r3_entry.specs.Image.{IsHistoryOf}
use Rattle.r3_desk.specs.Asked as desk
use Rattle.r3_desk.specs.Crash.{Reach}
use Rattle.r3_desk.specs.Disk.{told_len}
use Rattle.r3_desk.specs.Moments.{leaves_then, started, LeavesImage}
use Rattle.r3_model.specs.Event.{Call}
use Rattle.r3_model.specs.Held.{Mark}
use Rattle.r3_exec.specs.Does.{IsLeft, IsRead, Leaves, SyncsWithin, told_of, told_after}
use Rattle.r3_recover.specs.Kept.{IsKept, LeavesKept, settled_by}
use Rattle.r3_session.proofs.Marks.{AreSettled, owed-within}

take-whole : (h : List Entry) → take (length h) h ≡ h
take-whole h = ap (λ (es : List Entry). take (length h) es) (sym (append-nil h)) ∙ take-append_seam h []

-- a prefix, to which nothing more is owed
kept-prefix : (h xs : List Entry) (k : ℕ) (marks : List Mark) (j len : ℕ) (c : List ℕ) → len ≤ length (h ++ xs) → AreSettled k marks len → IsHistoryOf (take len (h ++ xs)) c → IsKept (h ++ xs) k marks j c
kept-prefix h xs k marks j len c le s is = record {
  len = len;
  within = le;
  settled_kept = omega (arith, s.no_less, s.within);
  owed_kept = omega (arith, owed-within (settled_by k marks) marks 0 j s.kept, s.within);
  history_of = is;
}

-- of what stood all along, with more behind it
pub kept-all : (h xs : List Entry) (k : ℕ) (marks : List Mark) (j : ℕ) (c : List ℕ) → AreSettled k marks (length h) → IsHistoryOf h c → IsKept (h ++ xs) k marks j c
kept-all h xs k marks j c s is =
    kept-prefix h xs k marks j (length h) c (omega (arith, length-append h xs)) s
    (subst (λ (es : List Entry). IsHistoryOf es c) (sym (take-append_seam h xs)) is)

-- the history, or what of it is settled
pub kept-read : (h : List Entry) (k : ℕ) (marks : List Mark) (j : ℕ) (c : List ℕ) → AreSettled k marks (length h) → IsRead h (settled_by k marks) c → IsKept h k marks j c
kept-read h k marks j c s read =
    let nil : h ++ [] ≡ h = append-nil h in
    let now : ℕ = settled_by k marks in
    ⊎_elim
    (λ all. subst (λ (es : List Entry). IsKept es k marks j c) nil (kept-all h [] k marks j c s all))
    (λ was. record {
      len = now;
      within = s.within;
      settled_kept = s.no_less;
      owed_kept = owed-within now marks 0 j s.kept;
      history_of = was;
    })
    read

-- a history that was settled, all of it
pub kept-whole : (h : List Entry) (j : ℕ) (c : List ℕ) → IsHistoryOf h c → IsKept h (length h) [] j c
kept-whole h j c is =
    record { len = length h; within = omega arith; settled_kept = omega arith; owed_kept = omega arith; history_of = subst (λ (es : List Entry). IsHistoryOf es c) (sym (take-whole h)) is }

-- with no further call
pub none-more : (h : List Entry) (k : ℕ) (marks : List Mark) (calls : List Call) (c : List ℕ) → IsKept h k marks (length calls) c → IsKept h k (marks ++ []) (length (calls ++ [])) c
none-more h k marks calls c p =
    subst (λ (cs : List Call). IsKept h k (marks ++ []) (length cs) c) (sym (append-nil calls))
    (subst (λ (ms : List Mark). IsKept h k ms (length calls) c) (sym (append-nil marks)) p)

-- either is the whole history where all of it is settled
pub read-whole : (h : List Entry) (c : List ℕ) → IsRead h (length h) c → IsHistoryOf h c
read-whole h c read = ⊎_elim (λ all. all) (λ was. subst (λ (es : List Entry). IsHistoryOf es c) (take-whole h) was) read

left-whole : (before after : Option (List desk.Call)) (h : List Entry) (c : List ℕ) (m : ℕ) → IsLeft before after h (length h) c m → IsHistoryOf h c
left-whole before after h c m left = ⊎_elim (λ all. all) (λ was. subst (λ (es : List Entry). IsHistoryOf es c) (take-whole h) was.0) left.2

module _ {D : Type 0} (may_leave : D → List ℕ → Type 0) (moment : D → ℕ) (reach : D → Reach) (said : D → Option (List ℕ)) (asked : D → Option (List desk.Call)) where
  -- one event on a settled history
  pub leaves-event : (old new : D) (h xs : List Entry) (marks : List Mark) → AreSettled (length h) marks (length h)
      → Leaves moment reach said asked old new h (length h) → LeavesKept moment reach said asked old new (h ++ xs) (length h) marks
  leaves-event old new h xs marks s leaves = record {
    elapses = leaves.elapses;
    each = λ c n m r.
        let x = leaves.each c n m r in
        (x.0, x.1.0, x.1.1, kept-all h xs (length h) marks (m - told_len (asked old)) c s (left-whole (asked old) (asked new) h c m x.1));
  }

  -- and then settling
  pub leaves-settled : (old mid new : D) (h : List Entry) (k : ℕ) (marks : List Mark) → AreSettled k marks (length h)
      → LeavesKept moment reach said asked old mid h k marks → Leaves moment reach said asked mid new h (settled_by k marks)
      → said mid ≡ said old → told_len (asked old) ≤ told_len (asked mid) → asked new ≡ asked mid
      → LeavesKept moment reach said asked old new h k marks
  leaves-settled old mid new h k marks s first second same_said from same_asked =
      let to : told_len (asked new) ≡ told_len (asked mid) = ap (λ (a : Option (List desk.Call)). told_len a) same_asked in
      leaves_then moment reach may_leave said asked old mid new _ _ _ first second
      (λ c n m p. (p.0, p.1, omega (arith, p.2, to), p.3))
      (λ c n m q. (
        q.0 ∙ ap (λ (x : Option (List ℕ)). told_len x) same_said,
        omega (arith, q.1.0, from),
        q.1.1,
        kept-read h k marks (m - told_len (asked old)) c s (⊎_elim (λ all. inl all) (λ was. inr was.0) q.1.2),
      ))

  -- disk calls alone, which leave the history
  pub leaves-image : (old new : D) (h : List Entry) → asked new ≡ asked old → LeavesImage moment reach may_leave said asked old new (IsHistoryOf h)
      → LeavesKept moment reach said asked old new h (length h) []
  leaves-image old new h same l = record {
    elapses = l.elapses;
    each = λ c n m r.
        let x = l.each c n m r in
        let to : told_len (asked new) ≡ told_len (asked old) = ap (λ (a : Option (List desk.Call)). told_len a) same in
        (x.1, omega (arith, x.2), omega (arith, x.2, to), kept-whole h (m - told_len (asked old)) c x.0);
  }

  -- where nothing was done
  pub leaves-nothing : (d : D) (h : List Entry)
      → ((t : ℕ) (c : List ℕ) → t ≤ moment d → may_leave d c → reach d t c (told_len (said d)) (told_len (asked d)))
      → ((c : List ℕ) (n m : ℕ) → reach d (moment d) c n m → may_leave d c × (n ≡ told_len (said d)) × (m ≡ told_len (asked d)))
      → ((c : List ℕ) → may_leave d c → IsHistoryOf (take (length h) h) c)
      → LeavesKept moment reach said asked d d h (length h) []
  leaves-nothing d h counts_now only_now here =
      leaves-image d d h refl (started moment reach may_leave said asked d (IsHistoryOf h) counts_now only_now (λ c left. subst (λ (es : List Entry). IsHistoryOf es c) (take-whole h) (here c left)))

-- ---- calls that are told

pub told-none : (o : Option (List desk.Call)) → o ≡ told_after o []
told-none None = refl
told-none (Some k) = ap (λ (x : List desk.Call). Some x) (sym (append-nil k))

pub told-more : (o : Option (List desk.Call)) (ks : List Call) → told_len o ≤ told_len (told_after o ks)
told-more None ks = omega arith
told-more (Some k) ks = omega (arith, length-append k (map told_of ks))

-- ---- syncs

syncs-twice : (a : Option ℕ) (m n : ℕ) → option_map (λ k. k + n) (option_map (λ k. k + m) a) ≡ option_map (λ k. k + (m + n)) a
syncs-twice None m n = refl
syncs-twice (Some k) m n = ap (λ (x : ℕ). Some x) (let e : k + m + n ≡ k + (m + n) = omega arith in e)

pub few-then : (a b c : Option ℕ) (most more : ℕ) → SyncsWithin a b most → SyncsWithin b c more → SyncsWithin a c (most + more)
few-then a b c most more first second = (
  first.0 + second.0,
  omega (arith, first.1, second.1),
  second.2 ∙ ap (λ (o : Option ℕ). option_map (λ k. k + second.0) o) first.2 ∙ syncs-twice a first.0 second.0,
)

pub few-more : (a b : Option ℕ) (most higher : ℕ) → most ≤ higher → SyncsWithin a b most → SyncsWithin a b higher
few-more a b most higher le s = (s.0, omega (arith, le, s.1), s.2)

pub no-syncs : (a : Option ℕ) → SyncsWithin a a 0
no-syncs None = (0, omega arith, refl)
no-syncs (Some n) = (0, omega arith, ap (λ (x : ℕ). Some x) (let e : n ≡ n + 0 = omega arith in e))

pub syncs-same : (a b : Option ℕ) (most : ℕ) → b ≡ a → SyncsWithin a b most
syncs-same a b most same = few-more a b 0 most (omega arith) (subst (λ (o : Option ℕ). SyncsWithin a o 0) (sym same) (no-syncs a))
