-- A call with its last line.
use Rattle.std.proofs.Common.{◌≡◌, ◌⊎◌, inl, inr, ⊎_elim, ℕ, ◌≤◌, ◌^◌, List, [], ◌++◌, length, map, take, Option, Some, None, refl, sym, ap, ◌∙◌, subst, arith, append-nil, length-append}
use Rattle.fn_tree.specs.declared.program.Item.{Item}
use Rattle.r3_entry.specs.declared.entry.Entry.{Entry}
use Rattle.r3_desk.specs.Asked as desk
use Rattle.r3_desk.specs.Crash.{Reach}
use Rattle.r3_desk.specs.Disk.{told_len, told_push}
use Rattle.r3_model.specs.Functions.{language_of}
use Rattle.r3_model.specs.Language.{Language, Text}
use Rattle.r3_model.specs.Event.{Call}
use Rattle.r3_model.specs.Script.{Line}
use Rattle.r3_exec.specs.Does.{told_after, told_of}
use Rattle.r3_serve.specs.Served.{Loud, said_of}
use Rattle.r3_serve.specs.Scripted.{ended_script_lines}
use Rattle.r3_top.specs.Statuses.{status_of, last_line, HasLine, IsBroken, IsFault, GoesAs}
use Rattle.r3_top.specs.Answered.{Answered, Untouched}
use Rattle.r3_top.specs.Going.{Unbegun, Goes, OfScript, OfDrain, OfGenerated, RunGoes, RecoverGoes, GenGoes, CheckGoes}
use Rattle.r3_top.specs.Ends.{Comes, RunComes, RunWork, RecoverComes, RecoverWork, GenComes, GenWork, EndsAs}
use Rattle.r3_top.specs.Closes.{SaysLast, EndsAtOnce, EndsAtStore}
use Rattle.r3_top.specs.declared.halt.Halt.{Halt}
use Rattle.r3_top.specs.declared.halt.Halt.TheVariants as halts
use Rattle.r3_top.proofs.Saying.{push-both, push-up, says-then}
use Rattle.r3_top.proofs.Leaving.{leaves-more, untouched-more}

asked-up : (told : Option (List desk.Call)) (calls : List Call) → told_len told ≤ told_len (told_after told calls)
asked-up None calls = omega arith
asked-up (Some k) calls = omega (arith, length-append k (map told_of calls))

-- the statuses of what has failed
pub fault-of : (halt : Halt) (answer : ℕ) → IsBroken (Some halt) → answer ≡ status_of halt → IsFault answer
fault-of halts.Memory answer b is = inl is
fault-of halts.Disk answer b is = inr (inl is)
fault-of halts.Say answer b is = inr (inr is)
fault-of halts.Usage answer b is = absurd b
fault-of halts.Files answer b is = absurd b
fault-of halts.Script answer b is = absurd b
fault-of (halts.Functions f) answer b is = absurd b
fault-of (halts.Store e) answer b is = absurd b
fault-of halts.Program answer b is = absurd b
fault-of halts.LongFile answer b is = absurd b
fault-of halts.LongScript answer b is = absurd b

whole-line : (halt : Halt) (line rest : Text) → line ++ rest ≡ last_line halt → rest ≡ [] → line ≡ last_line halt
whole-line halt line rest cut none = sym (append-nil line) ∙ ap (λ (r : Text). line ++ r) (sym none) ∙ cut

-- a line that isn't empty is there
pub has-line : (halt : Halt) → (last_line halt ≡ [] → ⊥) → HasLine halt
has-line halts.Usage some = tt
has-line halts.Memory some = absurd (some refl)
has-line halts.Disk some = absurd (some refl)
has-line halts.Say some = absurd (some refl)
has-line halts.Files some = absurd (some refl)
has-line halts.Script some = absurd (some refl)
has-line (halts.Functions x) some = tt
has-line (halts.Store x) some = tt
has-line halts.Program some = tt
has-line halts.LongFile some = tt
has-line halts.LongScript some = tt

module _ {D : Type 0} (image : D → Option Text) (may_leave : D → Text → Type 0) (moment : D → ℕ) (reach : D → Reach) (said : D → Option Text) (asked : D → Option (List desk.Call)) (from mid now : D) (halt : Halt) (answer : ℕ) where
  answered-line : (P : Language) (text : Text) (h : List Entry) (lines : List Line) → (last : SaysLast image may_leave moment reach said asked mid now halt answer)
      → Answered image may_leave moment reach said asked from mid P text h lines [] → Answered image may_leave moment reach said asked from now P text h lines last.line
  answered-line P text h lines last a = record {
    calls = a.calls;
    marks = a.marks;
    after = a.after;
    replies = a.replies;
    machine = a.machine;
    told = last.says.told ∙ ap (λ (x : Option Text). told_push x last.line) a.told ∙ push-both (said from) (said_of Loud a.replies ++ []) last.line
        ∙ ap (λ (x : Text). told_push (said from) (x ++ last.line)) (append-nil (said_of Loud a.replies));
    asks = last.says.asks ∙ a.asks;
    stored = λ c is. a.stored c (sym last.says.stored ∙ is);
    settled = λ c may. a.settled c (last.pending c may);
    leaves = leaves-more image may_leave moment reach said asked from mid now a.after.history (length h) a.marks last.line a.leaves a.settled last.pending last.time
        (let S : Option Text → Type 0 = λ x. told_len (said from) ≤ told_len x in subst S (sym a.told) (push-up (said from) (said_of Loud a.replies ++ [])))
        (let S : Option Text → Type 0 = λ x. told_len (said mid) ≤ told_len x in subst S (sym last.says.told) (push-up (said mid) last.line))
        (let S : Option (List desk.Call) → Type 0 = λ x. told_len (asked from) ≤ told_len x in subst S (sym a.asks) (asked-up (asked from) a.calls))
        (let S : Option (List desk.Call) → Type 0 = λ x. told_len (asked mid) ≤ told_len x in subst S (sym last.says.asks) (omega arith));
  }

  -- ---- how it ends

  -- what was so before the last line is so with it
  abbrev pub Lasts : (Halt → Type 0) → (Halt → Text → Type 0) → Type 0
  Lasts Old New = (last : SaysLast image may_leave moment reach said asked mid now halt answer) → Old halt → New halt last.line

  pub ends-as : (Old New : Option Halt → Text → Type 0) → ((now ≡ mid) → Old (Some halt) [] → New (Some halt) []) → Lasts (λ h. Old (Some h) []) (λ h line. New (Some h) line)
      → EndsAtOnce image may_leave moment reach said asked mid now halt answer → IsBroken (Some halt) ⊎ Old (Some halt) [] → IsFault answer ⊎ EndsAs New answer
  ends-as Old New same lasts closes came =
      ⊎_elim (λ silent. ⊎_elim
      (λ none. ⊎_elim (λ b. inl (fault-of halt answer b none.1))
      (λ old. inr (Some halt, none.1, subst (λ (x : Text). New (Some halt) x) (sym none.0) (same silent.1 old))) came)
      (λ three. inl (inl three.1)) silent.0)
      (λ last. ⊎_elim
      (λ all. ⊎_elim (λ b. inl (fault-of halt answer b all.0))
      (λ old. inr (Some halt, all.0, subst (λ (x : Text). New (Some halt) x) (whole-line halt last.line last.rest last.cut all.1) (lasts last old))) came)
      (λ five. inl (inr (inr five))) last.answers) closes

  -- a call on a store, whose work goes on so
  comes-line : (text : Text) (Old New : List Item → List Entry → Option Halt → Text → Type 0) → ((items : List Item) (h : List Entry) → Lasts (λ x. Old items h (Some x) []) (λ x line. New items h (Some x) line))
      → Lasts (λ x. Comes image may_leave moment reach said asked from mid text Old (Some x) []) (λ x line. Comes image may_leave moment reach said asked from now text New (Some x) line)
  comes-line text Old New work last came = ⊎_elim
      (λ refused. inl (refused.0, says-then image said asked from mid now [] last.line refused.1 last.says))
      (λ worked. inr (worked.0, worked.1, worked.2, work worked.0 worked.1 last worked.3)) came

module _ {D : Type 0} (image : D → Option Text) (may_leave : D → Text → Type 0) (moment : D → ℕ) (reach : D → Reach) (said : D → Option Text) (asked : D → Option (List desk.Call)) (from mid now : D) (answer : ℕ) where
  run-line : (left left' : Option Text) (text : Text) (items : List Item) (h : List Entry) (halt : Halt)
      → Lasts image may_leave moment reach said asked from mid now halt answer
      (λ x. RunWork image may_leave moment reach said asked from mid left left' text items h (Some x) [])
      (λ x line. RunWork image may_leave moment reach said asked from now left left' text items h (Some x) line)
  run-line left left' text items h halts.Script last w = (w.0, w.1, answered-line image may_leave moment reach said asked from mid now halts.Script answer _ text h _ last w.2)
  run-line left left' text items h halts.LongScript last w = λ script is. let x = w script is in (x.0, answered-line image may_leave moment reach said asked from mid now halts.LongScript answer _ text h _ last x.1)
  run-line left left' text items h halts.Usage last w = absurd w
  run-line left left' text items h halts.Memory last w = absurd w
  run-line left left' text items h halts.Disk last w = absurd w
  run-line left left' text items h halts.Say last w = absurd w
  run-line left left' text items h halts.Files last w = absurd w
  run-line left left' text items h (halts.Functions f) last w = absurd w
  run-line left left' text items h (halts.Store e) last w = absurd w
  run-line left left' text items h halts.Program last w = absurd w
  run-line left left' text items h halts.LongFile last w = absurd w

  pub run-ends : (left left' : Option Text) (text : Text) (halt : Halt) → EndsAtOnce image may_leave moment reach said asked mid now halt answer
      → IsBroken (Some halt) ⊎ RunComes image may_leave moment reach said asked from mid left left' text (Some halt) []
      → IsFault answer ⊎ EndsAs (RunComes image may_leave moment reach said asked from now left left' text) answer
  run-ends left left' text halt closes came = ends-as image may_leave moment reach said asked from mid now halt answer
      (RunComes image may_leave moment reach said asked from mid left left' text) (RunComes image may_leave moment reach said asked from now left left' text)
      (λ same old. subst (λ (d : D). RunComes image may_leave moment reach said asked from d left left' text (Some halt) []) (sym same) old)
      (comes-line image may_leave moment reach said asked from mid now halt answer text (RunWork image may_leave moment reach said asked from mid left left' text) (RunWork image may_leave moment reach said asked from now left left' text)
      (λ items h. run-line left left' text items h halt)) closes came

  -- the script's own end
  pub script-end : (left left' : Option Text) (text : Text) (halt : Halt) → halt ≡ halts.Script → now ≡ mid
      → IsBroken (Some halt) ⊎ RunComes image may_leave moment reach said asked from mid left left' text (Some halt) []
      → RunComes image may_leave moment reach said asked from now left left' text (Some halts.Script) []
  script-end left left' text halt is same came =
      let Came : Halt → Type 0 = λ x. IsBroken (Some x) ⊎ RunComes image may_leave moment reach said asked from mid left left' text (Some x) [] in
      let at : Came halts.Script = subst Came is came in
      ⊎_elim (λ b. absurd b) (λ r. subst (λ (d : D). RunComes image may_leave moment reach said asked from d left left' text (Some halts.Script) []) (sym same) r) at

  pub recover-ends : (turns : ℕ) (text : Text) (halt : Halt) → EndsAtOnce image may_leave moment reach said asked mid now halt answer
      → IsBroken (Some halt) ⊎ RecoverComes image may_leave moment reach said asked from mid turns text (Some halt) []
      → IsFault answer ⊎ EndsAs (RecoverComes image may_leave moment reach said asked from now turns text) answer
  recover-ends turns text halt closes came = ends-as image may_leave moment reach said asked from mid now halt answer
      (RecoverComes image may_leave moment reach said asked from mid turns text) (RecoverComes image may_leave moment reach said asked from now turns text)
      (λ same old. subst (λ (d : D). RecoverComes image may_leave moment reach said asked from d turns text (Some halt) []) (sym same) old)
      (comes-line image may_leave moment reach said asked from mid now halt answer text (RecoverWork image may_leave moment reach said asked from mid turns text) (RecoverWork image may_leave moment reach said asked from now turns text)
      (λ items h last w. absurd w)) closes came

  pub gen-ends : (number count : ℕ) (text : Text) (halt : Halt) → EndsAtOnce image may_leave moment reach said asked mid now halt answer
      → IsBroken (Some halt) ⊎ GenComes image may_leave moment reach said asked from mid number count text (Some halt) []
      → IsFault answer ⊎ EndsAs (GenComes image may_leave moment reach said asked from now number count text) answer
  gen-ends number count text halt closes came = ends-as image may_leave moment reach said asked from mid now halt answer
      (GenComes image may_leave moment reach said asked from mid number count text) (GenComes image may_leave moment reach said asked from now number count text)
      (λ same old. subst (λ (d : D). GenComes image may_leave moment reach said asked from d number count text (Some halt) []) (sym same) old)
      (comes-line image may_leave moment reach said asked from mid now halt answer text (GenWork image may_leave moment reach said asked from mid number count text) (GenWork image may_leave moment reach said asked from now number count text)
      (λ items h last w. absurd w)) closes came

  -- ---- however it goes

  unbegun-line : (h : List Entry) (halt : Halt) → (last : SaysLast image may_leave moment reach said asked mid now halt answer)
      → Unbegun image may_leave moment reach said asked from mid h [] → Unbegun image may_leave moment reach said asked from now h last.line
  unbegun-line h halt last u = record {
    says = says-then image said asked from mid now [] last.line u.says last.says;
    settled = λ c may. u.settled c (last.pending c may);
    leaves = leaves-more image may_leave moment reach said asked from mid now h (length h) [] last.line u.leaves u.settled last.pending last.time
        (let S : Option Text → Type 0 = λ x. told_len (said from) ≤ told_len x in subst S (sym u.says.told) (push-up (said from) []))
        (let S : Option Text → Type 0 = λ x. told_len (said mid) ≤ told_len x in subst S (sym last.says.told) (push-up (said mid) last.line))
        (let S : Option (List desk.Call) → Type 0 = λ x. told_len (asked from) ≤ told_len x in subst S (sym u.says.asks) (omega arith))
        (let S : Option (List desk.Call) → Type 0 = λ x. told_len (asked mid) ≤ told_len x in subst S (sym last.says.asks) (omega arith));
  }

  -- where a last line was said, the function file was refused, or the script is too long
  goes-line : (text : Text) (h : List Entry) (Old New : Language → Option Halt → Text → Type 0) (halt : Halt)
      → ((P : Language) → (last : SaysLast image may_leave moment reach said asked mid now halts.LongScript answer) → Old P (Some halts.LongScript) [] → New P (Some halts.LongScript) last.line)
      → (last : SaysLast image may_leave moment reach said asked mid now halt answer)
      → Goes image may_leave moment reach said asked from mid text h Old (Some halt) []
      → Goes image may_leave moment reach said asked from now text h New (Some halt) last.line
  goes-line text h Old New halts.Usage work last g = absurd g
  goes-line text h Old New halts.Memory work last g = absurd (last.spoken refl)
  goes-line text h Old New halts.Disk work last g = absurd (last.spoken refl)
  goes-line text h Old New halts.Say work last g = absurd (last.spoken refl)
  goes-line text h Old New halts.Files work last g = absurd (last.spoken refl)
  goes-line text h Old New halts.Script work last g = absurd (last.spoken refl)
  goes-line text h Old New (halts.Functions f) work last g = (g.0, unbegun-line h (halts.Functions f) last g.1)
  goes-line text h Old New (halts.Store e) work last g = absurd g
  goes-line text h Old New halts.Program work last g = absurd g
  goes-line text h Old New halts.LongFile work last g = (g.0, unbegun-line h halts.LongFile last g.1)
  goes-line text h Old New halts.LongScript work last g = (g.0, g.1, work (language_of g.0) last g.2)

  -- of a call to which only its last line is added
  goes-as : (Old New : Option Halt → Text → Type 0) (halt : Halt) → (now ≡ mid → Old (Some halt) [] → New (Some halt) [])
      → ((last : SaysLast image may_leave moment reach said asked mid now halt answer) → Old (Some halt) [] → New (Some halt) last.line)
      → EndsAtOnce image may_leave moment reach said asked mid now halt answer → Old (Some halt) [] → GoesAs New answer
  goes-as Old New halt same more closes old = ⊎_elim
      (λ silent. (Some halt, [], ⊎_elim (λ own. inl (own.1, sym own.0)) (λ three. inr (three.0, inr (three.1, refl))) silent.0, same silent.1 old))
      (λ last. (
        Some halt,
        last.line,
        ⊎_elim (λ own. inl (own.0, whole-line halt last.line last.rest last.cut own.1))
            (λ five. inr (has-line halt last.spoken, inl (five, last.rest, last.cut))) last.answers,
        more last old,
      )) closes

  pub run-goes : (text : Text) (h : List Entry) (script : Text) (halt : Halt) → EndsAtOnce image may_leave moment reach said asked mid now halt answer
      → RunGoes image may_leave moment reach said asked from mid text h script (Some halt) []
      → GoesAs (RunGoes image may_leave moment reach said asked from now text h script) answer
  run-goes text h script halt = goes-as (RunGoes image may_leave moment reach said asked from mid text h script) (RunGoes image may_leave moment reach said asked from now text h script) halt
      (λ same old. subst (λ (d : D). RunGoes image may_leave moment reach said asked from d text h script (Some halt) []) (sym same) old)
      (goes-line text h (OfScript image may_leave moment reach said asked from mid text h script) (OfScript image may_leave moment reach said asked from now text h script) halt
      (λ P last w. (w.0, answered-line image may_leave moment reach said asked from mid now halts.LongScript answer P text h (ended_script_lines (take (2 ^ 26) script)) last w.1)))

  pub recover-goes : (text : Text) (h : List Entry) (turns : ℕ) (halt : Halt) → EndsAtOnce image may_leave moment reach said asked mid now halt answer
      → RecoverGoes image may_leave moment reach said asked from mid text h turns (Some halt) []
      → GoesAs (RecoverGoes image may_leave moment reach said asked from now text h turns) answer
  recover-goes text h turns halt = goes-as (RecoverGoes image may_leave moment reach said asked from mid text h turns) (RecoverGoes image may_leave moment reach said asked from now text h turns) halt
      (λ same old. subst (λ (d : D). RecoverGoes image may_leave moment reach said asked from d text h turns (Some halt) []) (sym same) old)
      (goes-line text h (OfDrain image may_leave moment reach said asked from mid text h turns) (OfDrain image may_leave moment reach said asked from now text h turns) halt
      (λ P last w. absurd w))

  pub gen-goes : (text : Text) (h : List Entry) (number count : ℕ) (halt : Halt) → EndsAtOnce image may_leave moment reach said asked mid now halt answer
      → GenGoes image may_leave moment reach said asked from mid text h number count (Some halt) []
      → GoesAs (GenGoes image may_leave moment reach said asked from now text h number count) answer
  gen-goes text h number count halt = goes-as (GenGoes image may_leave moment reach said asked from mid text h number count) (GenGoes image may_leave moment reach said asked from now text h number count) halt
      (λ same old. subst (λ (d : D). GenGoes image may_leave moment reach said asked from d text h number count (Some halt) []) (sym same) old)
      (goes-line text h (OfGenerated image may_leave moment reach said asked from mid text h number count) (OfGenerated image may_leave moment reach said asked from now text h number count) halt
      (λ P last w. absurd w))

-- the same with the syncs
module _ {D : Type 0} (image : D → Option Text) (may_leave : D → Text → Type 0) (moment : D → ℕ) (reach : D → Reach) (said : D → Option Text) (asked : D → Option (List desk.Call)) (syncs : D → Option ℕ) (from mid now : D) (unsynced : syncs now ≡ syncs mid) (answer : ℕ) where
  -- a last line leaves the disk alone
  untouched-line : (halt : Halt) (before : Text) → said mid ≡ told_push (said from) before → asked mid ≡ asked from
      → (last : SaysLast image may_leave moment reach said asked mid now halt answer)
      → Untouched image may_leave moment reach said asked syncs from mid → Untouched image may_leave moment reach said asked syncs from now
  untouched-line halt before told asks last u = untouched-more image may_leave moment reach said asked syncs from mid now u last.says.stored unsynced last.pending last.time
      (let S : Option Text → Type 0 = λ x. told_len (said from) ≤ told_len x in subst S (sym told) (push-up (said from) before))
      (let S : Option Text → Type 0 = λ x. told_len (said mid) ≤ told_len x in subst S (sym last.says.told) (push-up (said mid) last.line))
      (let S : Option (List desk.Call) → Type 0 = λ x. told_len (asked from) ≤ told_len x in subst S (sym asks) (omega arith))
      (let S : Option (List desk.Call) → Type 0 = λ x. told_len (asked mid) ≤ told_len x in subst S (sym last.says.asks) (omega arith))

  check-line : (text : Text) (halt : Halt) → (last : SaysLast image may_leave moment reach said asked mid now halt answer)
      → CheckGoes image may_leave moment reach said asked syncs from mid text (Some halt) [] → CheckGoes image may_leave moment reach said asked syncs from now text (Some halt) last.line
  check-line text halts.Usage last e = absurd e.0.0
  check-line text halts.Memory last e = absurd (last.spoken refl)
  check-line text halts.Disk last e = absurd (last.spoken refl)
  check-line text halts.Say last e = absurd (last.spoken refl)
  check-line text halts.Files last e = absurd (last.spoken refl)
  check-line text halts.Script last e = absurd (last.spoken refl)
  check-line text halts.Program last e = absurd e.0.0
  check-line text halts.LongScript last e = absurd e.0.0
  check-line text (halts.Store n) last e = absurd e.0.0
  check-line text halts.LongFile last e =
      ((e.0.0, says-then image said asked from mid now [] last.line e.0.1 last.says), untouched-line halts.LongFile [] e.0.1.told e.0.1.asks last e.1)
  check-line text (halts.Functions f) last e =
      ((e.0.0, says-then image said asked from mid now [] last.line e.0.1 last.says), untouched-line (halts.Functions f) [] e.0.1.told e.0.1.asks last e.1)

  pub check-goes : (text : Text) (halt : Halt) → EndsAtOnce image may_leave moment reach said asked mid now halt answer
      → CheckGoes image may_leave moment reach said asked syncs from mid text (Some halt) []
      → GoesAs (CheckGoes image may_leave moment reach said asked syncs from now text) answer
  check-goes text halt = goes-as image may_leave moment reach said asked from mid now answer (CheckGoes image may_leave moment reach said asked syncs from mid text) (CheckGoes image may_leave moment reach said asked syncs from now text) halt
      (λ same old. subst (λ (d : D). CheckGoes image may_leave moment reach said asked syncs from d text (Some halt) []) (sym same) old) (check-line text halt)

  -- ---- a call that goes no further than a refusal

  store-line : (text : Text) (halt : Halt) → (last : SaysLast image may_leave moment reach said asked mid now halt answer)
      → EndsAtStore image may_leave moment reach said asked syncs from mid text (Some halt) [] → EndsAtStore image may_leave moment reach said asked syncs from now text (Some halt) last.line
  store-line text halts.Memory last e = absurd (last.spoken refl)
  store-line text halts.Disk last e = absurd (last.spoken refl)
  store-line text halts.Usage last e =
      ((e.0.0, says-then image said asked from mid now [] last.line e.0.1 last.says), untouched-line halts.Usage [] e.0.1.told e.0.1.asks last e.1)
  store-line text halts.Say last e =
      ((e.0.0, says-then image said asked from mid now [] last.line e.0.1 last.says), untouched-line halts.Say [] e.0.1.told e.0.1.asks last e.1)
  store-line text halts.Files last e =
      ((e.0.0, says-then image said asked from mid now [] last.line e.0.1 last.says), untouched-line halts.Files [] e.0.1.told e.0.1.asks last e.1)
  store-line text halts.Script last e =
      ((e.0.0, says-then image said asked from mid now [] last.line e.0.1 last.says), untouched-line halts.Script [] e.0.1.told e.0.1.asks last e.1)
  store-line text halts.Program last e =
      ((e.0.0, says-then image said asked from mid now [] last.line e.0.1 last.says), untouched-line halts.Program [] e.0.1.told e.0.1.asks last e.1)
  store-line text halts.LongFile last e =
      ((e.0.0, says-then image said asked from mid now [] last.line e.0.1 last.says), untouched-line halts.LongFile [] e.0.1.told e.0.1.asks last e.1)
  store-line text halts.LongScript last e =
      ((e.0.0, says-then image said asked from mid now [] last.line e.0.1 last.says), untouched-line halts.LongScript [] e.0.1.told e.0.1.asks last e.1)
  store-line text (halts.Functions f) last e =
      ((e.0.0, says-then image said asked from mid now [] last.line e.0.1 last.says), untouched-line (halts.Functions f) [] e.0.1.told e.0.1.asks last e.1)
  store-line text (halts.Store n) last e =
      ((e.0.0, says-then image said asked from mid now [] last.line e.0.1 last.says), untouched-line (halts.Store n) [] e.0.1.told e.0.1.asks last e.1)

  pub store-ends : (text : Text) (halt : Halt) → EndsAtOnce image may_leave moment reach said asked mid now halt answer
      → EndsAtStore image may_leave moment reach said asked syncs from mid text (Some halt) [] → GoesAs (EndsAtStore image may_leave moment reach said asked syncs from now text) answer
  store-ends text halt = goes-as image may_leave moment reach said asked from mid now answer (EndsAtStore image may_leave moment reach said asked syncs from mid text) (EndsAtStore image may_leave moment reach said asked syncs from now text) halt
      (λ same old. subst (λ (d : D). EndsAtStore image may_leave moment reach said asked syncs from d text (Some halt) []) (sym same) old) (store-line text halt)
