-- What bodies act on doesn't look at the count.
use Rattle.std.proofs.Common.{ℕ, ◌+◌, Bool, List, [], ◌∷◌, ◌++◌, Option, Some, None, refl}
use Rattle.std.specs.Prelude.{suc, length, nat_lt, map}
use Rattle.r3_value.specs.declared.value.Val.{Val}
use Rattle.fn_tree.specs.declared.look.Look.{Look}
use Rattle.fn_tree.specs.declared.flow.AskKind.{AskKind}
use Rattle.fn_tree.specs.declared.flow.AskKind.TheVariants as kind
use Rattle.fn_tree.specs.declared.program.Item.{Item}
use Rattle.fn_tree.specs.Values.{text_of}
use Rattle.fn_tree.specs.Sequences.{list_or_size}
use Rattle.fn_tree.specs.Soundness.{called, spawned}
use Rattle.fn_tree.specs.Statement.{At, Ends, Asks, taken}
use Rattle.fn_tree.specs.Transaction.{Versions, Log, Never, written_at, with_write, items_of_look, read_items, contains_look, with_look, fits_key, fits_bound, with_text, pair_value, rows_under, got_by, got, wrote, found, rows_at, scanned, on_versions}
use Rattle.fn_tree.specs.Flow.{ask, ask_or_stuck, on_asks}
use Rattle.fn_tree.specs.Cost.{later}
use Rattle.fn_meaning.proofs.StatementCost.{Shifts, EffectsShift, taken_shifts, if_raised}

with_text_shifts : {A : Type 0} (fits : List ℕ → Bool) (o : Option (List ℕ)) (go : List ℕ → At Log → Ends Never Log A) → ((t : List ℕ) → Shifts (go t)) → Shifts (λ at. with_text fits o at (λ t. go t at))
with_text_shifts fits None go h at k = refl
with_text_shifts fits (Some t) go h at k = if_raised (fits t) k _ _ _ _ (h t at k) refl

with_look_shifts : {A : Type 0} (l : Look) (go : At Log → Ends Never Log A) → Shifts go → Shifts (λ at. with_look l at go)
with_look_shifts l go h at k =
    if_raised (contains_look at.world.looks l) k _ _ _ _ (h at k)
    (if_raised (nat_lt 4096 (read_items at.world.looks + items_of_look l)) k _ _ _ _ refl (h (record at { world = record { looks = at.world.looks ++ l ∷ []; writes = at.world.writes } }) k))

module _ (base : Versions) where
  got_by_shifts : (o : Option (Option Val)) (table key : List ℕ) → Shifts (got_by base o table key)
  got_by_shifts (Some left) table key = λ at k. refl
  got_by_shifts None table key = with_look_shifts _ _ (λ at k. refl)

  got_shifts : (table : List ℕ) (v : Val) → Shifts (got base table v)
  got_shifts table v = with_text_shifts fits_key (text_of v) (λ key at. got_by base (written_at at.world.writes table key) table key at) (λ key at k. got_by_shifts (written_at at.world.writes table key) table key at k)

  wrote_shifts : (table : List ℕ) (left : Option Val) (v : Val) → Shifts (wrote base table left v)
  wrote_shifts table left v =
      with_text_shifts fits_key (text_of v) _ (λ key at k. if_raised (nat_lt 1024 (length (with_write at.world.writes table key left))) k _ _ _ _ refl refl)

  scanned_shifts : (table : List ℕ) (lo hi : Val) → Shifts (scanned base table lo hi)
  scanned_shifts table lo hi =
      with_text_shifts fits_bound (text_of lo) _ (λ from. with_text_shifts fits_bound (text_of hi) _ (λ to at k.
      with_look_shifts (found base table from to) (taken (list_or_size (map pair_value (rows_under at.world.writes table from to (rows_at base table from to))))) (taken_shifts _) at k))

  pub versions_shift : EffectsShift (on_versions base)
  versions_shift = record {
    get = got_shifts;
    scan = scanned_shifts;
    put = λ table k v. wrote_shifts table (Some v) k;
    delete = λ table k. wrote_shifts table None k;
    call = λ name n args at k. refl;
    spawn = λ name n args at k. refl;
    await = λ id at k. refl;
  }

ask_shifts : (a : AskKind) (name : List ℕ) (args : Val) → Shifts (ask a name args)
ask_shifts a name args at k =
    if_raised (nat_lt at.world 1000) k _ _ _ _ (λ i. Asks (record { n = at.world; kind = a; name = name; args = args }) (later k at) (λ o. taken_shifts o (record at { world = suc at.world }) k i)) refl

asked_shifts : (o : Option AskKind) (name : List ℕ) (args : Val) → Shifts (ask_or_stuck o name args)
asked_shifts (Some a) name args = ask_shifts a name args
asked_shifts None name args = λ at k. refl

pub asks_shift : (items : List Item) → EffectsShift (on_asks items)
asks_shift items = record {
  get = λ table v at k. refl;
  scan = λ table lo hi at k. refl;
  put = λ table v w at k. refl;
  delete = λ table v at k. refl;
  call = λ name n. asked_shifts (called items name n) name;
  spawn = λ name n. asked_shifts (spawned items name n) name;
  await = λ id. ask_shifts kind.Await _ _;
}
