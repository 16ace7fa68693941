-- What a store's chains answer of its history.
use Rattle.std.proofs.Common.{◌≡◌, ℕ, ◌≤◌, List, [], ◌∷◌, ◌++◌, length, sym, ap, subst, ◌∙◌, ⊎_elim, arith}
use Rattle.std.specs.Prelude.{Contains}
use Rattle.std.specs.FinMap.{find}
use Rattle.std.proofs.lemmas.List.Elements.{Contains-push_cases}
use Rattle.r3_rows.specs.declared.rows.Cell.{Cell}
use Rattle.r3_rows.specs.declared.rows.Key.{Key}
use Rattle.r3_rows.specs.Keys.{key_cmp}
use Rattle.r3_rows.specs.contracts.rows.KeyOrd.TheImpl as derived
use Rattle.r3_entry.specs.declared.entry.Entry.{Entry}
use Rattle.r3_entry.specs.History.{map_at}
use Rattle.r3_gate.specs.declared.gate.Gate.{Gate}
use Rattle.r3_chain.specs.Versions.{Versions, version_at, trimmed_all, as_of}
use Rattle.r3_formed.specs.LookLaws.{found_in}
use Rattle.r3_formed.specs.Past.{StandFor}
use Rattle.r3_store.specs.Holds.{Stands, IsReadable}
use Rattle.r3_store.specs.declared.store.Store.{Store}

pub not_trimmed : (s : Store) (h : List Entry) (k : ℕ) → Stands s h → IsReadable s k → s.oldest ≤ k
not_trimmed s h k stands readable = ⊎_elim (λ held. (stands.pins k held).0) (λ whole. omega (arith, stands.oldest, stands.count, whole)) readable

pub map_is : (s : Store) (h : List Entry) (k : ℕ) → Stands s h → IsReadable s k → as_of k s.chains.versions ≡ map_at h k
map_is s h k stands readable = stands.versions.maps k (not_trimmed s h k stands readable)

pub found_at : (s : Store) (h : List Entry) (k : ℕ) (key : Key) → Stands s h → IsReadable s k
    → version_at derived.cmp-value.it k key s.chains.versions ≡ find key_cmp key (map_at h k)
found_at s h k key stands readable = found_in s.chains.versions k key stands.versions.sorted ∙ ap (find key_cmp key) (map_is s h k stands readable)

pub stands_with : (old new : Store) (h : List Entry) → new.gate ≡ old.gate → new.chains.versions ≡ old.chains.versions → new.oldest ≡ old.oldest → new.texts ≡ old.texts
    → ((s : ℕ) → Contains new.pins s → (old.oldest ≤ s) × (s ≤ length h)) → Stands old h → Stands new h
stands_with old new h gate versions oldest texts pins stands = record {
  formed = stands.formed;
  count = ap (λ (g : Gate). g.count) gate ∙ stands.count;
  versions = subst (λ es. StandFor es h new.oldest) (sym versions) (subst (StandFor old.chains.versions h) (sym oldest) stands.versions);
  oldest = omega (arith, oldest, stands.oldest);
  pins = λ s there. let was : _ = pins s there in (omega (arith, was.0, oldest), was.1);
  texts = rw texts stands.texts;
}

pub pushed : (old : Store) (h : List Entry) (snap : ℕ) (items : List ℕ) → Stands old h → IsReadable old snap → items ≡ old.pins ++ snap ∷ []
    → (s : ℕ) → Contains items s → (old.oldest ≤ s) × (s ≤ length h)
pushed old h snap items stands readable is s there =
    ⊎_elim (stands.pins s)
    (λ same. subst (λ (x : ℕ). (old.oldest ≤ x) × (x ≤ length h)) same
    (⊎_elim (stands.pins snap) (λ whole. (omega (arith, whole, stands.oldest, stands.count), omega (arith, whole, stands.count))) readable))
    (Contains-push_cases old.pins snap s (subst (λ (l : List ℕ). Contains l s) is there))

-- versions that are trimmed stand from a later index on
abbrev pub Trimmed : Type 0
Trimmed = (es : Versions Key Cell) (h : List Entry) (oldest later : ℕ) → oldest ≤ later → StandFor es h oldest → StandFor (trimmed_all later es) h later

-- trimmed to an index that no pinned snapshot is below
pub vacuumed : Trimmed → (old new : Store) (h : List Entry) (later : ℕ) → new.gate ≡ old.gate → new.chains.versions ≡ trimmed_all later old.chains.versions → new.oldest ≡ later → new.texts ≡ old.texts
    → new.pins ≡ old.pins → old.oldest ≤ later → later ≤ length h → ((s : ℕ) → Contains old.pins s → later ≤ s) → Stands old h → Stands new h
vacuumed law old new h later gate versions oldest texts pins from within below stands = record {
  formed = stands.formed;
  count = ap (λ (g : Gate). g.count) gate ∙ stands.count;
  versions = subst (λ es. StandFor es h new.oldest) (sym versions) (subst (StandFor (trimmed_all later old.chains.versions) h) (sym oldest) (law old.chains.versions h old.oldest later from stands.versions));
  oldest = omega (arith, oldest, within);
  pins = λ s there. let held : Contains old.pins s = subst (λ (l : List ℕ). Contains l s) pins there in (omega (arith, below s held, oldest), (stands.pins s held).1);
  texts = rw texts stands.texts;
}

pub none_held : (ps : List ℕ) (s : ℕ) → ps ≡ [] → Contains ps s → ⊥
none_held ps s none there = empty (subst (λ (l : List ℕ). Contains l s) none there)
  where
    empty : Contains [] s → ⊥
    empty there = omega (arith, there.1)
