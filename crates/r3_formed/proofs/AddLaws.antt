-- The rules, write after write, are those of formed histories.
use Rattle.std.proofs.Common.{◌≡◌, ℕ, ◌+◌, ◌<◌, ◌≤◌, Bool, true, false, cond, List, [], ◌∷◌, length, Option, Some, refl, sym, ap, ◌∙◌, subst, arith, fold}
use Rattle.std.specs.Prelude.{◌↔◌, IsTrue, IsSome, T, nat_le, option_and_then}
use Rattle.std.specs.Option.{option_map_or}
use Rattle.std.proofs.lemmas.Bool.Decides.{nat_tests}
use Rattle.std.proofs.lemmas.List.{take_all}
use Rattle.std.specs.List.{AllByRecursion, enumerate_from}
use Rattle.std.specs.Ordering.{is_eq, eq_by_cmp}
use Rattle.std.specs.FinMap.{find}
use Rattle.std.specs.FinMap.Entries.{put, is_sorted, below_all, find-put}
use Rattle.r3_rows.specs.declared.rows.Key.{Key}
use Rattle.r3_rows.specs.declared.rows.Key.TheVariants.{User, Flow, Step}
use Rattle.r3_rows.specs.declared.rows.Cell.{Cell}
use Rattle.r3_rows.specs.Keys.{key_cmp, kind}
use Rattle.r3_rows.specs.KeyOrder.{key_cmp-total, key_cmp-same}
use Rattle.r3_entry.specs.declared.entry.Entry.{Entry}
use Rattle.r3_entry.specs.History.{Map, Write, after_entry}
use Rattle.r3_entry.specs.Formed.{Follows, IsProgramFirst}
use Rattle.r3_chain.specs.Versions.{Versions, installed, as_of, IsNext}
use Rattle.r3_chain.specs.VersionLaws.{lower_below, as_of-installed, sorted_installed}
use Rattle.r3_formed.specs.Past.{StandFor, all_installed}
use Rattle.r3_formed.specs.Rules.{version_in, look_in, IsWriteIn, HasFlow, FitsBehind}
use Rattle.r3_formed.specs.Adding.{AreNext, MayStand, MayAllStand, IsWithin}
use Rattle.r3_formed.proofs.Writes.{first, second, less_of, apart, keeps_versions}
use Rattle.r3_formed.proofs.Ready.{all_next}
use Rattle.r3_formed.proofs.RuleLaws.{fits_by, flows_by, follows_with}

abbrev Pair : Type 0
Pair = Key × Option Cell

abbrev VS : Type 0
VS = Versions Key Cell

-- ---- the indices stay higher

pub next_all : (es : VS) (h : List Entry) (n : ℕ) (ws : List Pair) → n ≡ length h → StandFor es h 0 → T (is_sorted key_cmp ws) → AreNext (n + 1) ws es
next_all es h n ws same stand sorted = record {
  versions = stand.sorted;
  sorted = sorted;
  next = subst (λ (k : ℕ). AllByRecursion (λ w. IsNext key_cmp (k + 1) w.0 es) ws) (sym same) (all_next (length h) es stand.numbers ws);
}

rest_next : (j : ℕ) (w : Pair) (ws : List Pair) (es : VS) → T (below_all key_cmp w.0 ws) → AllByRecursion (λ v. IsNext key_cmp j v.0 es) ws
    → AllByRecursion (λ v. IsNext key_cmp j v.0 (installed key_cmp j w.0 w.1 es)) ws
rest_next j w [] es b n = tt
rest_next j w (v ∷ vs) es b n =
    (subst (AllByRecursion (λ x. x.0 < j)) (sym (keeps_versions w.0 v.0 j w.1 es (less_of _ (first _ _ b)))) n.0, rest_next j w vs es (second _ _ b) n.1)

pub one_next : (j : ℕ) (w : Pair) (ws : List Pair) (es : VS) → AreNext j (w ∷ ws) es → IsNext key_cmp j w.0 es × AreNext j ws (installed key_cmp j w.0 w.1 es)
one_next j w ws es next = (
  next.next.0,
  record {
    versions = sorted_installed key_cmp key_cmp-total j w.0 w.1 es next.versions;
    sorted = second _ _ next.sorted;
    next = rest_next j w ws es (first _ _ next.sorted) next.next.1;
  },
)

-- ---- what another key holds

within_itself : (j : ℕ) → nat_le j j ≡ true
within_itself j = grind (arith, nat_tests)

other : (j : ℕ) (q : Key) (w : Pair) (es : VS) → T (is_sorted key_cmp es) → eq_by_cmp key_cmp q w.0 ≡ false
    → find key_cmp q (as_of j (installed key_cmp j w.0 w.1 es)) ≡ find key_cmp q (as_of j es)
other j q w es sorted apart_ =
    ap (find key_cmp q) (as_of-installed key_cmp key_cmp-total key_cmp-same j j w.0 w.1 es sorted
    ∙ ap (λ b. cond b (put key_cmp w.0 (j, w.1) (as_of j es)) (as_of j es)) (within_itself j))
    ∙ find-put key_cmp key_cmp-total q w.0 (j, w.1) (as_of j es)
    ∙ ap (λ b. cond b (Some (j, w.1)) (find key_cmp q (as_of j es))) apart_

below_stays : (j : ℕ) (q : Key) (ws : List Pair) (es : VS) → T (is_sorted key_cmp es) → T (below_all key_cmp q ws)
    → find key_cmp q (as_of j (all_installed j ws es)) ≡ find key_cmp q (as_of j es)
below_stays j q [] es sorted b = refl
below_stays j q (w ∷ ws) es sorted b =
    below_stays j q ws (installed key_cmp j w.0 w.1 es) (sorted_installed key_cmp key_cmp-total j w.0 w.1 es sorted) (second _ _ b)
    ∙ other j q w es sorted (ap is_eq (less_of _ (first _ _ b)))

-- the workflow of a step is there after the writes as it was before them: all their keys stand above it
flow_same : (j : ℕ) (w : Pair) (ws : List Pair) (es : VS) → T (is_sorted key_cmp es) → T (is_sorted key_cmp (w ∷ ws))
    → HasFlow (as_of j es) w.0 ↔ HasFlow (as_of j (all_installed j (w ∷ ws) es)) w.0
flow_same j (User table key, c) ws es sorted rising = (λ x. tt, λ x. tt)
flow_same j (Flow id, c) ws es sorted rising = (λ x. tt, λ x. tt)
flow_same j (Step id n, c) ws es sorted rising =
    let above : T (below_all key_cmp (Flow id) ((Step id n, c) ∷ ws)) =
    lower_below key_cmp key_cmp-total (Flow id) (Step id n) ws refl (first _ _ rising) in
    let same : find key_cmp (Flow id) (as_of j (all_installed j ((Step id n, c) ∷ ws) es)) ≡ find key_cmp (Flow id) (as_of j es) =
    below_stays j (Flow id) ((Step id n, c) ∷ ws) es sorted above in
    (subst (λ (f : Option Write). IsSome (option_and_then (λ w. w.1) f)) (sym same), subst (λ (f : Option Write). IsSome (option_and_then (λ w. w.1) f)) same)

-- ---- write after write

-- the map tells the versions of these keys as the map m does
abbrev AreAlike : ℕ → Map → List Pair → VS → Type 0
AreAlike j m ws es = AllByRecursion (λ w. version_in (as_of j es) w.0 ≡ version_in m w.0) ws

rest_alike : (j : ℕ) (m : Map) (w : Pair) (ws : List Pair) (es : VS) → T (is_sorted key_cmp es) → T (below_all key_cmp w.0 ws) → AreAlike j m ws es
    → AreAlike j m ws (installed key_cmp j w.0 w.1 es)
rest_alike j m w [] es sorted b alike = tt
rest_alike j m w (v ∷ vs) es sorted b alike = (
  ap (λ (f : Option Write). option_map_or (λ x. x.0) f 0) (other j v.0 w es sorted (ap is_eq (apart w.0 v.0 (less_of _ (first _ _ b))))) ∙ alike.0,
  rest_alike j m w vs es sorted (second _ _ b) alike.1,
)

all_alike : (j : ℕ) (m : Map) (ws : List Pair) (es : VS) → as_of j es ≡ m → AreAlike j m ws es
all_alike j m [] es same = tt
all_alike j m (w ∷ ws) es same = (ap (λ (x : Map). version_in x w.0) same, all_alike j m ws es same)

abbrev FlowsIn : ℕ → List Pair → VS → Type 0
FlowsIn j ws new = AllByRecursion (λ w. HasFlow (as_of j new) w.0) ws

all_to : (n snap : ℕ) (m : Map) (ws : List Pair) (es : VS) → T (is_sorted key_cmp es) → T (is_sorted key_cmp ws) → AreAlike (n + 1) m ws es → MayAllStand (n + 1) snap ws es
    → AllByRecursion (IsWriteIn m n snap) ws × FlowsIn (n + 1) ws (all_installed (n + 1) ws es)
all_to n snap m [] es sorted rising alike may = (tt, tt)
all_to n snap m (w ∷ ws) es sorted rising alike may =
    let v : version_in (as_of (n + 1) es) w.0 ≡ version_in m w.0 = alike.0 in
    let one : MayStand (n + 1) snap w es = may.0 in
    let rest : AllByRecursion (IsWriteIn m n snap) ws × FlowsIn (n + 1) ws (all_installed (n + 1) (w ∷ ws) es) =
    all_to n snap m ws (installed key_cmp (n + 1) w.0 w.1 es) (sorted_installed key_cmp key_cmp-total (n + 1) w.0 w.1 es sorted) (second _ _ rising)
    (rest_alike (n + 1) m w ws es sorted (first _ _ rising) alike.1) may.1 in (
      ((one.0, subst (λ (k : ℕ). k ≤ snap) v one.3, subst (λ (k : ℕ). kind w.0 ≡ 2 → k ≡ 0) v one.4, one.1), rest.0),
      ((flow_same (n + 1) w ws es sorted rising).0 one.2, rest.1),
    )

all_from : (n snap : ℕ) (m : Map) (ws : List Pair) (es : VS) → T (is_sorted key_cmp es) → T (is_sorted key_cmp ws) → AreAlike (n + 1) m ws es
    → AllByRecursion (IsWriteIn m n snap) ws → FlowsIn (n + 1) ws (all_installed (n + 1) ws es) → MayAllStand (n + 1) snap ws es
all_from n snap m [] es sorted rising alike fits flows = tt
all_from n snap m (w ∷ ws) es sorted rising alike fits flows =
    let v : version_in (as_of (n + 1) es) w.0 ≡ version_in m w.0 = alike.0 in
    let one : IsWriteIn m n snap w = fits.0 in (
      (one.0, one.3, (flow_same (n + 1) w ws es sorted rising).1 flows.0, subst (λ (k : ℕ). k ≤ snap) (sym v) one.1, subst (λ (k : ℕ). kind w.0 ≡ 2 → k ≡ 0) (sym v) one.2),
      all_from n snap m ws (installed key_cmp (n + 1) w.0 w.1 es) (sorted_installed key_cmp key_cmp-total (n + 1) w.0 w.1 es sorted) (second _ _ rising)
          (rest_alike (n + 1) m w ws es sorted (first _ _ rising) alike.1) fits.1 flows.1,
    )

-- ---- the loop over the writes, whose rest is tested against P

pub more_added : (j snap : ℕ) (w : Pair) (all rest : List Pair) (es new : VS) (P : Type 0) → all ≡ w ∷ rest → new ≡ installed key_cmp j w.0 w.1 es
    → MayStand j snap w es → (MayAllStand j snap all es ↔ P) → MayAllStand j snap rest new ↔ P
more_added j snap w all rest es new P is made may so = (
  λ left. so.0 (subst (λ ws. MayAllStand j snap ws es) (sym is) (may, subst (MayAllStand j snap rest) made left)),
  λ p. subst (MayAllStand j snap rest) (sym made) (subst (λ ws. MayAllStand j snap ws es) is (so.1 p)).1,
)

-- past the history's end the map stays
map_past : (es : VS) (h : List Entry) → StandFor es h 0 → as_of (length h + 1) es ≡ as_of (length h) es
map_past es h stand =
    stand.maps (length h + 1) (omega arith)
    ∙ ap (λ (x : List Entry). fold after_entry [] (enumerate_from 1 x)) (take_all (length h + 1) h (omega arith) ∙ sym (take_all (length h) h (omega arith)))
    ∙ sym (stand.maps (length h) (omega arith))

-- ---- the whole entry

pub truth : (b : Bool) → IsTrue b → T b
truth b holds = subst T (sym holds) tt

abbrev pub ReadsAre : VS → Entry → Type 0
ReadsAre es e = AllByRecursion (λ r. r ≡ look_in (as_of e.snap es) r) e.reads

pub moved : (es : VS) (h : List Entry) (e : Entry) (n : ℕ) (known may : Bool) → n ≡ length h → StandFor es h 0 → T (is_sorted key_cmp e.writes)
    → (IsTrue known ↔ (IsProgramFirst h e × IsWithin n e)) → (IsTrue may ↔ (ReadsAre es e × MayAllStand (n + 1) e.snap e.writes es))
    → (IsTrue known → IsTrue may → Follows h e) × (Follows h e → IsTrue known × IsTrue may)
moved es h e n known may same stand rising k m =
    let past : as_of (n + 1) es ≡ as_of n es = subst (λ (i : ℕ). as_of (i + 1) es ≡ as_of i es) (sym same) (map_past es h stand) in
    let alike : AreAlike (n + 1) (as_of n es) e.writes es = all_alike (n + 1) (as_of n es) e.writes es past in (
      λ yes also.
          let p : IsProgramFirst h e × IsWithin n e = k.0 yes in
          let q : ReadsAre es e × MayAllStand (n + 1) e.snap e.writes es = m.0 also in
          let all : AllByRecursion (IsWriteIn (as_of n es) n e.snap) e.writes × FlowsIn (n + 1) e.writes (all_installed (n + 1) e.writes es) =
          all_to n e.snap (as_of n es) e.writes es stand.sorted rising alike q.1 in
          follows_with es h e n same stand p.0 (p.1.0, q.0, all.0, p.1.1, p.1.2) all.1,
      λ follows.
          let fits : FitsBehind es n e = subst (λ (i : ℕ). FitsBehind es i e) (sym same) (fits_by es h e stand follows) in (
            k.1 (follows.program, (fits.0, fits.3, fits.4)),
            m.1 (fits.1, all_from n e.snap (as_of n es) e.writes es stand.sorted rising alike fits.2 (flows_by es h e n same stand follows)),
          ),
    )
