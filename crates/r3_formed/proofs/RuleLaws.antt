-- The rules for one entry, in terms of versions, are those of formed histories.
use Rattle.std.proofs.Common.{◌≡◌, ℕ, ◌+◌, ◌≤◌, Bool, false, List, [], ◌∷◌, ◌++◌, length, Option, refl, sym, ap, ◌∙◌, subst, arith, length-append}
use Rattle.std.specs.Prelude.{◌↔◌, IsTrue}
use Rattle.std.specs.List.{AllByRecursion}
use Rattle.r3_rows.specs.declared.rows.Key.{Key}
use Rattle.r3_rows.specs.declared.rows.Key.TheVariants.{User, Flow, Step}
use Rattle.r3_rows.specs.declared.rows.Cell.{Cell}
use Rattle.r3_rows.specs.declared.rows.Read.{Read}
use Rattle.r3_rows.specs.declared.rows.Read.TheVariants.{At, Range}
use Rattle.r3_rows.specs.Keys.{kind}
use Rattle.r3_entry.specs.declared.entry.Entry.{Entry}
use Rattle.r3_entry.specs.History.{Map, map_at, version_at}
use Rattle.r3_entry.specs.Formed.{Follows, IsProgramFirst, IsReadAt, IsNewStep, IsFlowRow, IsOfKind}
use Rattle.r3_chain.specs.Versions.{Versions, as_of}
use Rattle.r3_formed.specs.Past.{StandFor, all_installed}
use Rattle.r3_formed.specs.Rules.{look_in, IsWriteIn, HasFlow, FitsBehind}
use Rattle.r3_formed.proofs.Grows.{grown}

all_map : {X : Type 0} (P Q : X → Type 0) → ((x : X) → P x → Q x) → (xs : List X) → AllByRecursion P xs → AllByRecursion Q xs
all_map P Q f [] all = tt
all_map P Q f (x ∷ xs) all = (f x all.0, all_map P Q f xs all.1)

all_both : {X : Type 0} (P Q R : X → Type 0) → ((x : X) → P x → Q x → R x) → (xs : List X) → AllByRecursion P xs → AllByRecursion Q xs → AllByRecursion R xs
all_both P Q R f [] all also = tt
all_both P Q R f (x ∷ xs) all also = (f x all.0 also.0, all_both P Q R f xs all.1 also.1)

abbrev version_read : Read → ℕ
version_read (At table key version) = version
version_read (Range table lo hi keys) = 0

abbrev keys_read : Read → List (List ℕ × ℕ)
keys_read (At table key version) = []
keys_read (Range table lo hi keys) = keys

read_to : (h : List Entry) (s : ℕ) (r : Read) → r ≡ look_in (map_at h s) r → IsReadAt h s r
read_to h s (At table key version) is = ap version_read is
read_to h s (Range table lo hi keys) is = ap keys_read is

read_back : (h : List Entry) (s : ℕ) (r : Read) → IsReadAt h s r → r ≡ look_in (map_at h s) r
read_back h s (At table key version) is = ap (At table key) is
read_back h s (Range table lo hi keys) is = ap (Range table lo hi) is

abbrev Pair : Type 0
Pair = Key × Option Cell

abbrev WriteIn : List Entry → ℕ → Pair → Type 0
WriteIn h snap = IsWriteIn (map_at h (length h)) (length h) snap

abbrev FlowIn : List Entry → Pair → Type 0
FlowIn new w = HasFlow (map_at new (length new)) w.0

step_to : (h new : List Entry) (w : Pair) → (kind w.0 ≡ 2 → version_at h (length h) w.0 ≡ 0) → FlowIn new w → IsNewStep h new w
step_to h new (User table key, c) unwritten flow = tt
step_to h new (Flow id, c) unwritten flow = tt
step_to h new (Step id n, c) unwritten flow = (unwritten refl, flow)

step_unwritten : (h new : List Entry) (w : Pair) → IsNewStep h new w → kind w.0 ≡ 2 → version_at h (length h) w.0 ≡ 0
step_unwritten h new (User table key, c) step k = absurd (omega (arith, k))
step_unwritten h new (Flow id, c) step k = absurd (omega (arith, k))
step_unwritten h new (Step id n, c) step k = step.0

step_flow : (h new : List Entry) (w : Pair) → IsNewStep h new w → FlowIn new w
step_flow h new (User table key, c) step = tt
step_flow h new (Flow id, c) step = tt
step_flow h new (Step id n, c) step = step.1

follows_by : (es : Versions Key Cell) (h : List Entry) (e : Entry) → StandFor es h 0 → IsProgramFirst h e → FitsBehind es (length h) e
    → AllByRecursion (FlowIn (h ++ e ∷ [])) e.writes → Follows h e
follows_by es h e stand program fits flows =
    let writes : AllByRecursion (WriteIn h e.snap) e.writes = subst (λ (m : Map). AllByRecursion (IsWriteIn m (length h) e.snap) e.writes) (stand.maps (length h) (omega arith)) fits.2 in
    let reads : AllByRecursion (λ r. r ≡ look_in (map_at h e.snap) r) e.reads = subst (λ (m : Map). AllByRecursion (λ r. r ≡ look_in m r) e.reads) (stand.maps e.snap (omega arith)) fits.1 in
    record {
      program = program;
      isolated = record {
        below = fits.0;
        reads = all_map _ (IsReadAt h e.snap) (read_to h e.snap) e.reads reads;
        unwritten = all_map (WriteIn h e.snap) (λ w. version_at h (length h) w.0 ≤ e.snap) (λ w p. p.1) e.writes writes;
      };
      kinds = all_map (WriteIn h e.snap) IsOfKind (λ w p. p.0) e.writes writes;
      steps = all_both (WriteIn h e.snap) (FlowIn (h ++ e ∷ [])) (IsNewStep h (h ++ e ∷ [])) (λ w p flow. step_to h (h ++ e ∷ []) w p.2 flow) e.writes writes flows;
      flows = all_map (WriteIn h e.snap) (IsFlowRow (length h + 1)) (λ w p. p.3) e.writes writes;
      few_rows = fits.3;
      few_reads = fits.4;
    }

write_back : (h : List Entry) (e : Entry) (ws : List Pair) → AllByRecursion IsOfKind ws → AllByRecursion (λ w. version_at h (length h) w.0 ≤ e.snap) ws
    → AllByRecursion (IsNewStep h (h ++ e ∷ [])) ws → AllByRecursion (IsFlowRow (length h + 1)) ws → AllByRecursion (WriteIn h e.snap) ws
write_back h e [] kinds unwritten steps flows = tt
write_back h e (w ∷ ws) kinds unwritten steps flows =
    ((kinds.0, unwritten.0, step_unwritten h (h ++ e ∷ []) w steps.0, flows.0), write_back h e ws kinds.1 unwritten.1 steps.1 flows.1)

pub fits_by : (es : Versions Key Cell) (h : List Entry) (e : Entry) → StandFor es h 0 → Follows h e → FitsBehind es (length h) e
fits_by es h e stand follows = (
  follows.isolated.below,
  subst (λ (m : Map). AllByRecursion (λ r. r ≡ look_in m r) e.reads) (sym (stand.maps e.snap (omega arith))) (all_map (IsReadAt h e.snap) _ (read_back h e.snap) e.reads follows.isolated.reads),
  subst (λ (m : Map). AllByRecursion (IsWriteIn m (length h) e.snap) e.writes) (sym (stand.maps (length h) (omega arith)))
      (write_back h e e.writes follows.kinds follows.isolated.unwritten follows.steps follows.flows),
  follows.few_rows,
  follows.few_reads,
)

-- an entry that breaks a rule doesn't follow
pub not_program : (h : List Entry) (e : Entry) (b : Bool) → (IsTrue b ↔ IsProgramFirst h e) → b ≡ false → IsTrue false ↔ Follows h e
not_program h e b is fails = (λ a. absurd cc, λ follows. sym fails ∙ is.1 follows.program)

pub not_fitting : (es : Versions Key Cell) (h : List Entry) (e : Entry) (n : ℕ) (b : Bool) → n ≡ length h → StandFor es h 0 → (IsTrue b ↔ FitsBehind es n e) → b ≡ false → IsTrue false ↔ Follows h e
not_fitting es h e n b same stand is fails =
    (λ a. absurd cc, λ follows. sym fails ∙ is.1 (subst (λ (k : ℕ). FitsBehind es k e) (sym same) (fits_by es h e stand follows)))

-- the versions with those of the entry
pub stands_on : (es new : Versions Key Cell) (h : List Entry) (e : Entry) (n : ℕ) → n ≡ length h → StandFor es h 0 → new ≡ all_installed (n + 1) e.writes es → StandFor new (h ++ e ∷ []) 0
stands_on es new h e n same stand is =
    subst (λ vs. StandFor vs (h ++ e ∷ []) 0) (sym (is ∙ ap (λ (k : ℕ). all_installed (k + 1) e.writes es) same)) (grown es h e 0 stand)

-- the map after the entry, as its versions tell it
map_after : (es : Versions Key Cell) (h : List Entry) (e : Entry) (n : ℕ) → n ≡ length h → StandFor es h 0
    → as_of (n + 1) (all_installed (n + 1) e.writes es) ≡ map_at (h ++ e ∷ []) (length (h ++ e ∷ []))
map_after es h e n same stand =
    let after : StandFor (all_installed (n + 1) e.writes es) (h ++ e ∷ []) 0 = stands_on es (all_installed (n + 1) e.writes es) h e n same stand refl in
    let number : n + 1 ≡ length (h ++ e ∷ []) = omega (arith, same, length-append h (e ∷ [])) in
    after.maps (n + 1) (omega arith) ∙ ap (map_at (h ++ e ∷ [])) number

pub follows_with : (es : Versions Key Cell) (h : List Entry) (e : Entry) (n : ℕ) → n ≡ length h → StandFor es h 0 → IsProgramFirst h e → FitsBehind es n e
    → AllByRecursion (λ w. HasFlow (as_of (n + 1) (all_installed (n + 1) e.writes es)) w.0) e.writes → Follows h e
follows_with es h e n same stand program fits flows =
    follows_by es h e stand program (subst (λ (k : ℕ). FitsBehind es k e) same fits)
    (subst (λ (m : Map). AllByRecursion (λ w. HasFlow m w.0) e.writes) (map_after es h e n same stand) flows)

pub flows_by : (es : Versions Key Cell) (h : List Entry) (e : Entry) (n : ℕ) → n ≡ length h → StandFor es h 0 → Follows h e
    → AllByRecursion (λ w. HasFlow (as_of (n + 1) (all_installed (n + 1) e.writes es)) w.0) e.writes
flows_by es h e n same stand follows =
    subst (λ (m : Map). AllByRecursion (λ w. HasFlow m w.0) e.writes) (sym (map_after es h e n same stand))
    (all_map (IsNewStep h (h ++ e ∷ [])) (FlowIn (h ++ e ∷ [])) (step_flow h (h ++ e ∷ [])) e.writes follows.steps)

-- an entry that keeps all rules but the last follows where the workflows of its steps are there
pub admitted : (es new : Versions Key Cell) (h : List Entry) (e : Entry) (n : ℕ) (b : Bool) → n ≡ length h → StandFor es h 0 → new ≡ all_installed (n + 1) e.writes es
    → IsProgramFirst h e → FitsBehind es n e → (IsTrue b ↔ AllByRecursion (λ w. HasFlow (as_of (n + 1) new) w.0) e.writes) → IsTrue b ↔ Follows h e
admitted es new h e n b same stand is program fits flows =
    let after : StandFor new (h ++ e ∷ []) 0 = stands_on es new h e n same stand is in
    let number : n + 1 ≡ length (h ++ e ∷ []) = omega (arith, same, length-append h (e ∷ [])) in
    let map_is : as_of (n + 1) new ≡ map_at (h ++ e ∷ []) (length (h ++ e ∷ [])) = after.maps (n + 1) (omega arith) ∙ ap (map_at (h ++ e ∷ [])) number in
    let here : FitsBehind es (length h) e = subst (λ (k : ℕ). FitsBehind es k e) same fits in (
      λ true_. follows_by es h e stand program here (subst (λ (m : Map). AllByRecursion (λ w. HasFlow m w.0) e.writes) map_is (flows.0 true_)),
      λ follows. flows.1 (subst (λ (m : Map). AllByRecursion (λ w. HasFlow m w.0) e.writes) (sym map_is)
          (all_map (IsNewStep h (h ++ e ∷ [])) (FlowIn (h ++ e ∷ [])) (step_flow h (h ++ e ∷ [])) e.writes follows.steps)),
    )
