-- A call on a desk in memory goes on from what was reached before it.
use Rattle.std.proofs.Common.{◌≡◌, ◌⊎◌, inl, inr, ⊎_elim, ℕ, ◌+◌, ◌-◌, ◌≤◌, List, [], ◌∷◌, ◌++◌, length, reverse, map, take, drop, max, Some, Bool, true, false, ◌&&◌, nat_le, if◌then◌else◌, refl, sym, ◌∙◌, ap, subst, arith}
use Rattle.std.proofs.lemmas.Bool.{and_from, le-leb}
use Rattle.std.proofs.lemmas.List.{reverse-append, length-reverse, length-append, length-map, take_at, drop_at, length-take-le, length-drop, append_assoc}
use Rattle.r3_desk.specs.Asked.{Call}
use Rattle.r3_desk.specs.Recorded.{call_of}
use Rattle.r3_desk.specs.Crash.{Reach, Elapses, GoesOn}
use Rattle.r3_desk.specs.Memory.{State, state, after_step, fitting, TornBy, MayLeave, LeavesAt, ReachIn, bytes_before, sync_count}
use Rattle.r3_desk.specs.Past.{reach_only, elapses_step, elapses_none}
use Rattle.r3_desk.specs.Disk.{Torn, overwritten}
use Rattle.r3_desk.specs.declared.step.Step.{Step}
use Rattle.r3_desk.specs.declared.step.Step.TheVariants.{Idle, Write, Sync, Say, Ask}
use Rattle.r3_desk.specs.declared.asked.Asked.{Asked}
use Rattle.r3_desk.specs.declared.memory.MemDesk.{MemDesk}

-- the calls so far, the newest first, and what they wrote
abbrev state_of : MemDesk → State
state_of d = state d.first.items (reverse d.calls.steps.items) d.written.items

abbrev moment_of : MemDesk → ℕ
moment_of d = length d.calls.steps.items

abbrev reach_of : MemDesk → Reach
reach_of d = ReachIn d.first.items (reverse d.calls.steps.items) d.written.items

abbrev may_leave_of : MemDesk → List ℕ → Type 0
may_leave_of d c = MayLeave (state_of d) c

abbrev Goes : MemDesk → MemDesk → Type 0
Goes old new = GoesOn {D = MemDesk} {C = Call} moment_of reach_of may_leave_of (λ d. Some d.said.items) (λ d. Some (map call_of d.asked.items)) old new

-- what follows from one recorded step more, over the lists alone
record Went (first : List ℕ) (steps : List Step) (bytes : List ℕ) (first' : List ℕ) (steps' : List Step) (bytes' : List ℕ) : Type 0 where
  elapses : Elapses (length steps) (length steps') (ReachIn first (reverse steps) bytes) (ReachIn first' (reverse steps') bytes')
  leaves : (c : List ℕ) (n m : ℕ) → ReachIn first' (reverse steps') bytes' (length steps) c n m →
      LeavesAt (state first (reverse steps) bytes) c n m ⊎ LeavesAt (state first' (reverse steps') bytes') c n m

went_step : (first : List ℕ) (steps : List Step) (bytes : List ℕ) (x : Step) (bytes' : List ℕ) → bytes_before x bytes' ≡ bytes → Went first steps bytes first (steps ++ x ∷ []) bytes'
went_step first steps bytes x bytes' is =
    subst (λ (l : List ℕ). Went first steps l first (steps ++ x ∷ []) bytes') is (record { elapses = elapsed; leaves = λ c n m r. here c n m (subst (R c n m) at_end r) })
  where
    at_end : reverse (steps ++ x ∷ []) ≡ x ∷ reverse steps
    at_end = reverse-append steps (x ∷ [])

    R : List ℕ → ℕ → ℕ → List Step → Type 0
    R c n m l = ReachIn first l bytes' (length steps) c n m

    elapsed : Elapses (length steps) (length (steps ++ x ∷ [])) (ReachIn first (reverse steps) (bytes_before x bytes')) (ReachIn first (reverse (steps ++ x ∷ [])) bytes')
    elapsed =
        let E : ℕ → ℕ → List Step → Type 0 = λ n k l. Elapses n k (ReachIn first (reverse steps) (bytes_before x bytes')) (ReachIn first l bytes') in
        let e0 : E (length (reverse steps)) (length (reverse steps) + 1) (x ∷ reverse steps) = elapses_step first x (reverse steps) bytes' in
        let e1 : E (length steps) (length steps + 1) (x ∷ reverse steps) = subst (λ n. E n (n + 1) (x ∷ reverse steps)) (length-reverse steps) e0 in
        let e2 : E (length steps) (length (steps ++ x ∷ [])) (x ∷ reverse steps) = subst (λ k. E (length steps) k (x ∷ reverse steps)) (sym (length-append steps (x ∷ []))) e1 in
        subst (λ l. E (length steps) (length (steps ++ x ∷ [])) l) (sym at_end) e2

    here : (c : List ℕ) (n m : ℕ) → ReachIn first (x ∷ reverse steps) bytes' (length steps) c n m →
        LeavesAt (state first (reverse steps) (bytes_before x bytes')) c n m ⊎ LeavesAt (state first (reverse (steps ++ x ∷ [])) bytes') c n m
    here c n m (inl now) = inr (let Q : List Step → Type 0 = λ l. LeavesAt (state first l bytes') c n m in subst Q (sym at_end) now.1)
    here c n m (inr past) = inl (reach_only first (reverse steps) (bytes_before x bytes') (length steps) c n m (omega (arith, length-reverse steps)) past)

went_none : (first : List ℕ) (steps : List Step) (bytes : List ℕ) → Went first steps bytes first steps bytes
went_none first steps bytes = record {
  elapses = let E : ℕ → Type 0 = λ n. Elapses n n (ReachIn first (reverse steps) bytes) (ReachIn first (reverse steps) bytes) in subst E (length-reverse steps) (elapses_none first (reverse steps) bytes);
  leaves = λ c n m r. inl (reach_only first (reverse steps) bytes (length steps) c n m (omega (arith, length-reverse steps)) r);
}

goes : (old new : MemDesk) → Went old.first.items old.calls.steps.items old.written.items new.first.items new.calls.steps.items new.written.items
    → length old.said.items ≤ length new.said.items → length old.asked.items ≤ length new.asked.items → Goes old new
goes old new w said asked = record {
  elapses = w.elapses;
  image_of = λ c n m r. ⊎_elim (λ was. inl was.0) (λ is. inr is.0) (w.leaves c n m r);
  said_from = λ c n m r. ⊎_elim (λ was. omega (arith, was.1, old.said_told)) (λ is. omega (arith, is.1, new.said_told)) (w.leaves c n m r);
  said_to = λ c n m r. ⊎_elim (λ was. omega (arith, was.1, old.said_told)) (λ is. omega (arith, is.1, new.said_told)) (w.leaves c n m r);
  asked_from = λ c n m r. ⊎_elim (λ was. omega (arith, was.2, old.asked_told, calls old)) (λ is. omega (arith, is.2, new.asked_told, calls old)) (w.leaves c n m r);
  asked_to = λ c n m r. ⊎_elim (λ was. omega (arith, was.2, old.asked_told, calls new)) (λ is. omega (arith, is.2, new.asked_told, calls new)) (w.leaves c n m r);
}
  where
    calls : (d : MemDesk) → length (map call_of d.asked.items) ≡ length d.asked.items
    calls d = length-map d.asked.items call_of

-- one recorded step more
pub goes_step : (old new : MemDesk) (x : Step) → new.first.items ≡ old.first.items → new.calls.steps.items ≡ old.calls.steps.items ++ x ∷ [] → bytes_before x new.written.items ≡ old.written.items
    → length old.said.items ≤ length new.said.items → length old.asked.items ≤ length new.asked.items → Goes old new
goes_step old new x same_first pushed bytes said asked =
    let W : List ℕ → List Step → Type 0 = λ f l. Went old.first.items old.calls.steps.items old.written.items f l new.written.items in
    let w0 : W old.first.items (old.calls.steps.items ++ x ∷ []) = went_step old.first.items old.calls.steps.items old.written.items x new.written.items bytes in
    let w1 : W old.first.items new.calls.steps.items = subst (W old.first.items) (sym pushed) w0 in
    goes old new (subst (λ f. W f new.calls.steps.items) (sym same_first) w1) said asked

-- a call that isn't recorded
pub goes_none : (old new : MemDesk) → new.first.items ≡ old.first.items → new.calls.steps.items ≡ old.calls.steps.items → new.written.items ≡ old.written.items
    → length old.said.items ≤ length new.said.items → length old.asked.items ≤ length new.asked.items → Goes old new
goes_none old new same_first same_steps same_bytes said asked =
    let W : List ℕ → List Step → List ℕ → Type 0 = λ f l b. Went old.first.items old.calls.steps.items old.written.items f l b in
    let w0 : W old.first.items old.calls.steps.items old.written.items = went_none old.first.items old.calls.steps.items old.written.items in
    let w1 : W old.first.items old.calls.steps.items new.written.items = subst (W old.first.items old.calls.steps.items) (sym same_bytes) w0 in
    let w2 : W old.first.items new.calls.steps.items new.written.items = subst (λ l. W old.first.items l new.written.items) (sym same_steps) w1 in
    goes old new (subst (λ f. W f new.calls.steps.items new.written.items) (sym same_first) w2) said asked

-- the bytes before the newest write
pub before_push : (old bytes new : List ℕ) → new ≡ old ++ bytes → take (length new - length bytes) new ≡ old
before_push old bytes new is =
    let len : length new - length bytes ≡ length old = omega (arith, ap length is, length-append old bytes) in
    ap (λ (n : ℕ). take n new) len ∙ ap (λ (l : List ℕ). take (length old) l) is ∙ take_at old bytes (length old) refl

pub sync_count-append : (xs ys : List Step) → sync_count (xs ++ ys) ≡ sync_count xs + sync_count ys
sync_count-append [] ys = omega arith
sync_count-append (Idle ∷ xs) ys = sync_count-append xs ys
sync_count-append (Write at len ∷ xs) ys = sync_count-append xs ys
sync_count-append (Sync ∷ xs) ys = omega (arith, sync_count-append xs ys)
sync_count-append (Say len ∷ xs) ys = sync_count-append xs ys
sync_count-append (Ask ∷ xs) ys = sync_count-append xs ys

pub length-overwritten : (old : List ℕ) (at : ℕ) (bytes : List ℕ) → at ≤ length old → length (overwritten old at bytes) ≡ max (length old) (at + length bytes)
length-overwritten old at bytes le = omega (arith, length-append (take at old ++ bytes) (drop (at + length bytes) old), length-append (take at old) bytes, length-take-le at old le, length-drop (at + length bytes) old)

-- a write that is done in full is one that a crash may have cut short
pub torn_whole : (old : List ℕ) (at : ℕ) (bytes : List ℕ) → at ≤ length old → Torn at (length bytes) old (overwritten old at bytes)
torn_whole old at bytes le =
    let front : length (take at old) ≡ at = length-take-le at old le in
    let split : overwritten old at bytes ≡ take at old ++ (bytes ++ drop (at + length bytes) old) = append_assoc (take at old) bytes (drop (at + length bytes) old) in
    let both : length (take at old ++ bytes) ≡ at + length bytes = omega (arith, length-append (take at old) bytes, front) in
    let len = length-overwritten old at bytes le in
    record {
      before = ap (λ (l : List ℕ). take at l) split ∙ take_at (take at old) (bytes ++ drop (at + length bytes) old) at front;
      after = drop_at (take at old ++ bytes) (drop (at + length bytes) old) (at + length bytes) both;
      no_shorter = omega (arith, len);
      no_longer = omega (arith, len);
    }

-- the number of syncs after a step that is none, and after one that is
pub syncs_same : (xs ys : List Step) (x : Step) → ys ≡ xs ++ x ∷ [] → sync_count (x ∷ []) ≡ 0 → Some (sync_count ys) ≡ Some (sync_count xs)
syncs_same xs ys x is none = ap (λ (l : List Step). Some (sync_count l)) is ∙ ap Some (let e : sync_count (xs ++ x ∷ []) ≡ sync_count xs = omega (arith, sync_count-append xs (x ∷ []), none) in e)

pub syncs_more : (xs ys : List Step) → ys ≡ xs ++ Sync ∷ [] → Some (sync_count ys) ≡ Some (sync_count xs + 1)
syncs_more xs ys is = ap (λ (l : List Step). Some (sync_count l)) is ∙ ap Some (let e : sync_count (xs ++ Sync ∷ []) ≡ sync_count xs + 1 = omega (arith, sync_count-append xs (Sync ∷ [])) in e)

pub pending_write : (first : List ℕ) (steps : List Step) (bytes : List ℕ) (at : ℕ) (written : List ℕ) (steps' : List Step) (bytes' : List ℕ) (image : List ℕ)
    → steps' ≡ steps ++ Write at (length written) ∷ [] → bytes' ≡ bytes ++ written → (state first (reverse steps) bytes).image ≡ image → at ≤ length image
    → (c : List ℕ) → MayLeave (state first (reverse steps') bytes') c
    → (d : List ℕ) × MayLeave (state first (reverse steps) bytes) d × Torn at (length written) d c
pending_write first steps bytes at written steps' bytes' image pushed added told le c left =
    let x = Write at (length written) in
    let at_end : reverse steps' ≡ x ∷ reverse steps = ap reverse pushed ∙ reverse-append steps (x ∷ []) in
    let M : List Step → Type 0 = λ l. MayLeave (state first l bytes') c in
    let left' : M (x ∷ reverse steps) = subst M at_end left in
    let old : take (length bytes' - length written) bytes' ≡ bytes = before_push bytes written bytes' added in
    let new : drop (length bytes' - length written) bytes' ≡ written =
    ap (λ (n : ℕ). drop n bytes') (let e : length bytes' - length written ≡ length bytes = omega (arith, ap length added, length-append bytes written) in e)
    ∙ ap (λ (l : List ℕ). drop (length bytes) l) added ∙ drop_at bytes written (length bytes) refl in
    cases old new left'
  where
    S : List ℕ → State
    S b = state first (reverse steps) b

    cases : take (length bytes' - length written) bytes' ≡ bytes → drop (length bytes' - length written) bytes' ≡ written
        → MayLeave (state first (Write at (length written) ∷ reverse steps) bytes') c
        → (d : List ℕ) × MayLeave (state first (reverse steps) bytes) d × Torn at (length written) d c
    cases old new (inl torn) = (torn.0, inl (let T : List ℕ → Type 0 = λ b. TornBy (state first (reverse steps) b).ranges (state first (reverse steps) b).base torn.0 in subst T old torn.1), torn.2)
    cases old new (inr is) =
        let whole : c ≡ overwritten image at written =
        is ∙ ap (λ (b : List ℕ). overwritten (state first (reverse steps) b).image at (drop (length bytes' - length written) bytes')) old
        ∙ ap (λ (w : List ℕ). overwritten (state first (reverse steps) bytes).image at w) new
        ∙ ap (λ (i : List ℕ). overwritten i at written) told in
        (image, inr (sym told), subst (λ (l : List ℕ). Torn at (length written) image l) (sym whole) (torn_whole image at written le))

pub longer : (xs ys zs : List Asked) (x : Asked) → ys ≡ xs → zs ≡ ys ++ x ∷ [] → length xs ≤ length zs
longer xs ys zs x same pushed = omega (arith, ap length same, ap length pushed, length-append ys (x ∷ []))

-- the steps after a call that failed: it was recorded, if it wasn't past the room
abbrev pub after_failed : Bool → List Step → List Step
after_failed past steps = if past then steps else steps ++ Idle ∷ []

-- a call that failed
pub goes_failed : (old new : MemDesk) (past : Bool) → new.first.items ≡ old.first.items → new.calls.steps.items ≡ after_failed past old.calls.steps.items → new.written.items ≡ old.written.items
    → length old.said.items ≤ length new.said.items → length old.asked.items ≤ length new.asked.items → Goes old new
goes_failed old new true same_first steps bytes said asked = goes_none old new same_first steps bytes said asked
goes_failed old new false same_first steps bytes said asked = goes_step old new Idle same_first steps bytes said asked

pub syncs_failed : (xs ys : List Step) (past : Bool) → ys ≡ after_failed past xs → Some (sync_count ys) ≡ Some (sync_count xs)
syncs_failed xs ys true is = ap (λ (l : List Step). Some (sync_count l)) is
syncs_failed xs ys false is = syncs_same xs ys Idle is refl

pub pending_failed : (first : List ℕ) (steps steps' : List Step) (bytes : List ℕ) (past : Bool) (at n : ℕ) → steps' ≡ after_failed past steps
    → (c : List ℕ) → MayLeave (state first (reverse steps') bytes) c → (d : List ℕ) × MayLeave (state first (reverse steps) bytes) d × Torn at n d c
pending_failed first steps steps' bytes past at n is c left = (c, same past is, record { before = refl; after = refl; no_shorter = omega arith; no_longer = omega arith })
  where
    M : List Step → Type 0
    M l = MayLeave (state first (reverse l) bytes) c

    idle : reverse (steps ++ Idle ∷ []) ≡ Idle ∷ reverse steps
    idle = reverse-append steps (Idle ∷ [])

    same : (p : Bool) → steps' ≡ after_failed p steps → M steps
    same true e = subst M e left
    same false e = let N : List Step → Type 0 = λ l. MayLeave (state first l bytes) c in subst N idle (subst M e left)

-- a call that was done
pub goes_done : (old new : MemDesk) (admitted : List Step) (x : Step) → new.first.items ≡ old.first.items → admitted ≡ old.calls.steps.items → new.calls.steps.items ≡ admitted ++ x ∷ []
    → bytes_before x new.written.items ≡ old.written.items → length old.said.items ≤ length new.said.items → length old.asked.items ≤ length new.asked.items → Goes old new
goes_done old new admitted x same_first same pushed bytes said asked =
    goes_step old new x same_first (pushed ∙ ap (λ (l : List Step). l ++ x ∷ []) same) bytes said asked

pub syncs_done : (xs admitted ys : List Step) (x : Step) → admitted ≡ xs → ys ≡ admitted ++ x ∷ [] → sync_count (x ∷ []) ≡ 0 → Some (sync_count ys) ≡ Some (sync_count xs)
syncs_done xs admitted ys x same pushed none = syncs_same xs ys x (pushed ∙ ap (λ (l : List Step). l ++ x ∷ []) same) none

-- what a write that was done leaves of the desk's facts
module _ (first : List ℕ) (steps : List Step) (bytes : List ℕ) (admitted steps' : List Step) (bytes' : List ℕ) (at : ℕ) (written : List ℕ) where
  write_recorded : admitted ≡ steps → steps' ≡ admitted ++ Write at (length written) ∷ [] → reverse steps' ≡ Write at (length written) ∷ reverse steps
  write_recorded same pushed =
      ap reverse pushed ∙ ap (λ (l : List Step). reverse (l ++ Write at (length written) ∷ [])) same ∙ reverse-append steps (Write at (length written) ∷ [])

  pub state_write : admitted ≡ steps → steps' ≡ admitted ++ Write at (length written) ∷ [] → bytes' ≡ bytes ++ written
      → state first (reverse steps') bytes' ≡ after_step (Write at (length written)) bytes' (state first (reverse steps) bytes)
  state_write same pushed added =
      ap (λ (l : List Step). state first l bytes') (write_recorded same pushed)
      ∙ ap (λ (b : List ℕ). after_step (Write at (length written)) bytes' (state first (reverse steps) b)) (before_push bytes written bytes' added)

  pub image_write : admitted ≡ steps → steps' ≡ admitted ++ Write at (length written) ∷ [] → bytes' ≡ bytes ++ written
      → (image image' : List ℕ) → (state first (reverse steps) bytes).image ≡ image → image' ≡ overwritten image at written → (state first (reverse steps') bytes').image ≡ image'
  image_write same pushed added image image' told now =
      let len : length bytes' - length written ≡ length bytes = omega (arith, ap length added, length-append bytes written) in
      let new : drop (length bytes' - length written) bytes' ≡ written =
      ap (λ (n : ℕ). drop n bytes') len ∙ ap (λ (l : List ℕ). drop (length bytes) l) added ∙ drop_at bytes written (length bytes) refl in
      ap (λ (s : State). s.image) (state_write same pushed added)
      ∙ ap (λ (i : List ℕ). overwritten i at (drop (length bytes' - length written) bytes')) told
      ∙ ap (λ (w : List ℕ). overwritten image at w) new ∙ sym now

  pub fits_write : admitted ≡ steps → steps' ≡ admitted ++ Write at (length written) ∷ [] → bytes' ≡ bytes ++ written
      → (image : List ℕ) → (state first (reverse steps) bytes).image ≡ image → at ≤ length image → fitting first (reverse steps) bytes ≡ true → fitting first (reverse steps') bytes' ≡ true
  fits_write same pushed added image told le fits =
      let F : List ℕ → Bool = λ b. nat_le at (length (state first (reverse steps) b).image) && nat_le (length written) (length bytes') && fitting first (reverse steps) b in
      let begins : nat_le at (length (state first (reverse steps) bytes).image) ≡ true = le-leb _ _ (omega (arith, ap length told, le)) in
      let kept : nat_le (length written) (length bytes') ≡ true = le-leb _ _ (omega (arith, ap length added, length-append bytes written)) in
      let here : F bytes ≡ true = and_from _ _ (and_from _ _ begins kept) fits in
      let there : F (take (length bytes' - length written) bytes') ≡ true = subst (λ (b : List ℕ). F b ≡ true) (sym (before_push bytes written bytes' added)) here in
      subst (λ (l : List Step). fitting first l bytes' ≡ true) (sym (write_recorded same pushed)) there
