-- The entry of an event is isolated, and a program stands first alone.
use Rattle.std.proofs.Common.{◌≡◌, ℕ, ◌≤◌, Bool, true, false, ◌||◌, List, [], ◌∷◌, ◌++◌, map, length, Option, Some, None, refl, sym, subst, ◌∙◌, arith}
use Rattle.std.specs.List.{AllByRecursion, list_any}
use Rattle.std.specs.Ordering.{eq_by_cmp}
use Rattle.std.proofs.lemmas.Slice.Eq.{bytes_eq-Decides}
use Rattle.r3_value.specs.declared.value.Outcome.{Outcome}
use Rattle.r3_rows.specs.declared.rows.Key.{Key}
use Rattle.r3_rows.specs.declared.rows.Key.TheVariants as keys
use Rattle.r3_rows.specs.declared.rows.Cell.{Cell}
use Rattle.fn_tree.specs.declared.look.Look.{Look}
use Rattle.fn_tree.specs.declared.look.Look.TheVariants.{At, Range}
use Rattle.r3_entry.specs.declared.entry.Act.{Act}
use Rattle.r3_entry.specs.declared.entry.Entry.{Entry}
use Rattle.r3_entry.specs.Formed.{IsIsolated, IsReadAt}
use Rattle.r3_rows.specs.Keys.{key_cmp}
use Rattle.r3_entry.specs.History.{version_at}
use Rattle.r3_entry.proofs.Append.{version_at_le}
use Rattle.fn_tree.specs.Writes.{Write as Put}
use Rattle.r3_model.specs.Language.{Text, Language}
use Rattle.fn_tree.specs.declared.flow.Request.{Request}
use Rattle.r3_model.specs.Event.{Event, Turn}
use Rattle.r3_model.specs.Rows.{view_at}
use Rattle.r3_model.specs.Acts.{Writes, plain, put_write, read_of}
use Rattle.r3_model.specs.Turns.{run_on, writer_past}
use Rattle.r3_model.specs.Made.{is_own}
use Rattle.r3_model.specs.Lawful.{IsLawful, IsLookAt}
use Rattle.r3_model.specs.Valid.{IsOpen}
use Rattle.r3_laws.proofs.Cases.{AskCase, commits, hears, bears, links, awaits, finishes, goes_on, Case, programs, loads, starts, enqueues, dequeues, turns, cancels, resumes, forks, recovers}
use Rattle.r3_laws.proofs.Cells.{unwritten-since}
use Rattle.r3_laws.proofs.Ranges.{range-paired}
use Rattle.r3_laws.proofs.Tells.{tie-refl}

module _ (P : Language) (lawful : IsLawful P) (h : List Entry) (e : Entry) where
  moved : (e0 : Entry) → e ≡ e0 → IsIsolated h e0 → IsIsolated h e
  moved e0 is all = let Of : Entry → Type 0 = IsIsolated h in subst Of (sym is) all

  -- no entry stands past the last
  all-early : (ws : Writes) → AllByRecursion (λ (w : Key × Option Cell). version_at h (length h) w.0 ≤ length h) ws
  all-early [] = tt
  all-early (w ∷ ws) = (version_at_le h w.0 (length h) (omega arith), all-early ws)

  on_all : (act : Act) (writes : Writes) → e ≡ plain h act writes → IsIsolated h e
  on_all act writes is = moved (plain h act writes) is (record { below = omega arith; reads = tt; unwritten = all-early writes })

  look-true : (s : ℕ) (l : Look) → IsLookAt (view_at h s) l → IsReadAt h s (read_of l)
  look-true s (At table key version) is = is
  look-true s (Range table lo hi found) is = is ∙ range-paired h s table lo hi

  looks-true : (s : ℕ) (looks : List Look) → AllByRecursion (IsLookAt (view_at h s)) looks → AllByRecursion (IsReadAt h s) (map read_of looks)
  looks-true s [] all = tt
  looks-true s (l ∷ ls) all = (look-true s l all.0, looks-true s ls all.1)

  or_here : (a b : Bool) → a ≡ true → (a || b) ≡ true
  or_here true b is = refl
  or_here false b is = absurd cc

  or_later : (a b : Bool) → b ≡ true → (a || b) ≡ true
  or_later true b is = refl
  or_later false b is = is

  abbrev is_put : List Put → Key → Bool
  is_put puts key = list_any (λ (p : Put). eq_by_cmp key_cmp key (put_write p).0) puts

  -- the keys of the puts that are left are keys of all puts
  puts-early : (s : ℕ) (all puts : List Put) (rest : Writes) → ((q : Key) → is_put puts q ≡ true → is_put all q ≡ true) → writer_past h s (is_put all) ≡ None
      → AllByRecursion (λ (w : Key × Option Cell). version_at h (length h) w.0 ≤ s) rest → AllByRecursion (λ (w : Key × Option Cell). version_at h (length h) w.0 ≤ s) (map put_write puts ++ rest)
  puts-early s all [] rest among none early = early
  puts-early s all (p ∷ ps) rest among none early = (
    unwritten-since h s (is_put all) (put_write p).0 none (among (put_write p).0 (or_here (eq_by_cmp key_cmp (put_write p).0 (put_write p).0) (is_put ps (put_write p).0) (tie-refl (put_write p).0))),
    puts-early s all ps rest (λ q is. among q (or_later (eq_by_cmp key_cmp q (put_write p).0) (is_put ps q) is)) none early,
  )

  ask-isolated : {answer : Option Outcome} (id : Text) (q : Request) (snap : Option ℕ) → ((s : ℕ) → snap ≡ Some s → IsOpen P h id s) → AskCase P h id q snap answer e → IsIsolated h e
  ask-isolated id q snap begun (commits s kind snap_is none is) =
      let o : IsOpen P h id s = begun s snap_is in
      let step : version_at h (length h) (keys.Step id q.n) ≤ s = unwritten-since h s (is_own id) (keys.Step id q.n) o.own ((bytes_eq-Decides id id).1 refl) in
      moved _ is (record {
        below = o.past;
        reads = looks-true s (run_on P h id s q).reads (lawful.looks_true q.name q.args (view_at h s)).looks;
        unwritten = puts-early s (run_on P h id s q).writes (run_on P h id s q).writes _ (λ k is. is) none (step, tt);
      })
  ask-isolated id q snap begun (hears out kind heard is) = on_all _ _ is
  ask-isolated id q snap begun (bears kind gone few is) = on_all _ _ is
  ask-isolated id q snap begun (links child out kind child_is o_is is) = on_all _ _ is
  ask-isolated id q snap begun (awaits out kind found is) = on_all _ _ is

  pub case-isolated : {answer : Option Outcome} (ev : Event) (snap : Option ℕ) → ((id : Text) (s : ℕ) → ev ≡ Turn id → snap ≡ Some s → IsOpen P h id s) → Case P h ev snap answer e → IsIsolated h e
  case-isolated ev snap begun (programs text ev_is is) = on_all _ _ is
  case-isolated ev snap begun (loads table rows ev_is is) = on_all _ _ is
  case-isolated ev snap begun (starts id function args ev_is gone tests is) = on_all _ _ is
  case-isolated ev snap begun (enqueues id queue function args ev_is gone tests is) = on_all _ _ is
  case-isolated ev snap begun (dequeues queue f ev_is there waits is) = on_all _ _ is
  case-isolated ev snap begun (turns id row ev_is there runs (finishes o ends is)) = on_all _ _ is
  case-isolated ev snap begun (turns id row ev_is there runs (goes_on q ends c)) = ask-isolated id q snap (λ s snap_is. begun id s ev_is snap_is) c
  case-isolated ev snap begun (cancels id row ev_is there may is) = on_all _ _ is
  case-isolated ev snap begun (resumes id row ev_is there may is) = on_all _ _ is
  case-isolated ev snap begun (forks id source below row ev_is gone there tests is) = on_all _ _ is
  case-isolated ev snap begun (recovers id row ev_is there runs is) = on_all _ _ is
