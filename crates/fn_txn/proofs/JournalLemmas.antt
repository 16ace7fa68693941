-- What is recorded, and how the meaning says it.
use Rattle.std.proofs.Common.{◌≡◌, subst, ℕ, suc, ◌+◌, ◌<◌, ◌≤◌, Bool, true, false, not, ◌&&◌, List, [], ◌∷◌, ◌++◌, length, map, Option, Some, None, Result, Ok, Err, refl, ap, sym, ◌∙◌, arith}
use Rattle.std.specs.Prelude.{nat_lt, codes, if◌then◌else◌}
use Rattle.std.proofs.lemmas.Bool.{le-ltb, lt-ltb}
use Rattle.std.specs.Map.{lookup}
use Rattle.std.specs.Ordering.{is_eq}
use Rattle.std.specs.BTreeMap.{insert_entry}
use Rattle.std.specs.declared.cmp.Ordering.{Ordering}
use Rattle.r3_value.specs.declared.value.Val.{Val}
use Rattle.r3_value.specs.declared.value.Outcome.{Outcome}
use Rattle.fn_tree.specs.declared.flow.Request.{Request}
use Rattle.fn_tree.specs.declared.look.Look.{Look}
use Rattle.fn_tree.specs.Ends.{At, Ends, Goes, Failed, and_then}
use Rattle.fn_tree.specs.Looks.{read_items, items_of_look, contains_look, with_look, with_text, fits_key, fits_bound}
use Rattle.fn_tree.specs.Control.{taken}
use Rattle.fn_tree.specs.Sequences.{list_or_size}
use Rattle.fn_tree.specs.Values.{or_null, text_of}
use Rattle.fn_tree.specs.Writes.{Log, Never, Row, Versions, with_write, pair_value}
use Rattle.fn_tree.specs.Transaction as txn
use Rattle.fn_walk.specs.Runs.{BreaksAs, RunsAs}
use Rattle.fn_walk.specs.declared.broken.Break.{Break}
use Rattle.fn_walk.specs.declared.broken.Break.TheVariants as broken
use Rattle.fn_walk.proofs.RunLemmas.{broke, along}
use Rattle.fn_txn.specs.declared.row_key.RowKey.{RowKey}
use Rattle.fn_txn.specs.RowKeys.{row_cmp, write_of}
use Rattle.fn_txn.specs.Rows.{key_row}
use Rattle.fn_txn.specs.Journals.{looked, wrote_key, kept_or_size}
use Rattle.fn_txn.specs.Texts.{text_or_word, IsTextOrWord}
use Rattle.fn_txn.proofs.OrderLemmas.{insert_is, length_absent, length_writes}

abbrev pub nothing : Request → Option Never
nothing q = None

pub fits_key_none : (s : List ℕ) → length s ≡ 0 → false ≡ fits_key s
fits_key_none [] n = refl
fits_key_none (b ∷ s) n = absurd (omega (arith, n))

pub fits_key_long : (s : List ℕ) → 256 < length s → false ≡ fits_key s
fits_key_long [] n = refl
fits_key_long (b ∷ s) n = sym (le-ltb (length s) 256 (omega (arith, n)))

pub fits_key_some : (s : List ℕ) → 0 < length s → length s ≤ 256 → true ≡ fits_key s
fits_key_some [] m n = absurd (omega (arith, m))
fits_key_some (b ∷ s) m n = sym (lt-ltb (length s) 256 (omega (arith, n)))

module _ (cmp : RowKey → RowKey → Ordering) (order : (a b : RowKey) → cmp a b ≡ row_cmp a b) where
  -- a write that fits
  pub wrote_fits : (looks : List Look) (es es' : List (RowKey × Option Val)) (key : RowKey) (left : Option Val) → es' ≡ insert_entry cmp es key left → length es' ≤ 1024 → wrote_key key left (record { looks = looks; writes = map write_of es }) ≡ Some (record { looks = looks; writes = map write_of es' })
  wrote_fits looks es es' key left is few =
      let w = insert_is cmp order key left es ∙ ap (map write_of) (sym is) in
      let short = le-ltb 1024 (length es') few in
      ap (λ ws. if nat_lt 1024 (length ws) then None else Some (record { looks = looks; writes = ws })) w
      ∙ ap (λ n. if nat_lt 1024 n then None else Some (record { looks = looks; writes = map write_of es' })) (length_writes es')
      ∙ ap (λ b. if b then None else Some (record { looks = looks; writes = map write_of es' })) short

  -- a write of one key too many
  pub wrote_too_many : (looks : List Look) (es : List (RowKey × Option Val)) (key : RowKey) (left : Option Val) → lookup (λ x. is_eq (cmp key x)) es ≡ None → 1024 ≤ length es → wrote_key key left (record { looks = looks; writes = map write_of es }) ≡ None
  wrote_too_many looks es key left absent many =
      let es' = insert_entry cmp es key left in
      let w = insert_is cmp order key left es in
      let n : length es' ≡ suc (length es) = length_absent cmp order key left es absent in
      let more : 1024 < length es' = omega (arith, n, many) in
      let long = lt-ltb 1024 (length es') more in
      ap (λ ws. if nat_lt 1024 (length ws) then None else Some (record { looks = looks; writes = ws })) w
      ∙ ap (λ n. if nat_lt 1024 n then None else Some (record { looks = looks; writes = map write_of es' })) (length_writes es')
      ∙ ap (λ b. if b then None else Some (record { looks = looks; writes = map write_of es' })) long

by_if : (b : Bool) (c : Bool) (at : At Log) (log log' : Log) {A : Type 0} (go : At Log → Ends Never Log A) → (if b then go (record at { world = log }) else if c then Failed (codes "size") at else go (record at { world = log' })) ≡ and_then (kept_or_size (if b then Some log else if c then None else Some log') at) (λ u. go)
by_if true c at log log' go = refl
by_if false true at log log' go = refl
by_if false false at log log' go = refl

-- a look, and what follows it
pub with_look_is : {A : Type 0} (l : Look) (at : At Log) (go : At Log → Ends Never Log A) → with_look l at go ≡ and_then (kept_or_size (looked l at.world) at) (λ u. go)
with_look_is l at go =
    by_if (contains_look at.world.looks l) (nat_lt 4096 (read_items at.world.looks + items_of_look l)) at at.world (record { looks = at.world.looks ++ l ∷ []; writes = at.world.writes }) go

by_if_kept : (b : Bool) (at : At Log) (log : Log) → (if b then Failed (codes "size") at else Goes tt (record at { world = log })) ≡ kept_or_size (if b then None else Some log) at
by_if_kept true at log = refl
by_if_kept false at log = refl

abbrev on_text : {A : Type 0} → Result (List ℕ) (List ℕ) → At Log → (List ℕ → Ends Never Log A) → Ends Never Log A
on_text (Ok t) at go = go t
on_text (Err word) at go = Failed word at

on_text_if : {A : Type 0} (b : Bool) (t : List ℕ) (at : At Log) (go : List ℕ → Ends Never Log A) → (if b then go t else Failed (codes "size") at) ≡ on_text (if b then Ok t else Err (codes "size")) at go
on_text_if true t at go = refl
on_text_if false t at go = refl

with_text_is : {A : Type 0} (fits : List ℕ → Bool) (o : Option (List ℕ)) (at : At Log) (go : List ℕ → Ends Never Log A) → with_text fits o at go ≡ on_text (text_or_word fits o) at go
with_text_is fits None at go = refl
with_text_is fits (Some t) at go = on_text_if (fits t) t at go

-- a text that fits, and what follows it
pub text_went : {A : Type 0} (fits : List ℕ → Bool) (o : Option (List ℕ)) (t : List ℕ) (r : Result A Break) (at after : At Log) (go : List ℕ → Ends Never Log A) → text_or_word fits o ≡ Ok t → RunsAs nothing r (go t) after → RunsAs nothing r (with_text fits o at go) after
text_went fits o t r at after go is h = along nothing r _ (go t) after (with_text_is fits o at go ∙ ap (λ x. on_text x at go) is) h

-- another value, or a text that doesn't fit
pub text_broke : {A : Type 0} (fits : List ℕ → Bool) (o : Option (List ℕ)) (e : Break) (at : At Log) (go : List ℕ → Ends Never Log A) → IsTextOrWord (Err e) (text_or_word fits o) → BreaksAs nothing e (with_text fits o at go) at
text_broke fits o (broken.Failed word) at go h = with_text_is fits o at go ∙ ap (λ x. on_text x at go) h
text_broke fits o broken.Memory at go h = tt
text_broke fits o (broken.Returned v) at go h = absurd h
text_broke fits o (broken.Asks q) at go h = absurd h
text_broke fits o broken.Stuck at go h = absurd h

-- a look that was recorded, and what follows it
pub look_went : {A : Type 0} (l : Look) (r : Result A Break) (at mid after : At Log) (go : At Log → Ends Never Log A) → kept_or_size (looked l at.world) at ≡ Goes tt mid → RunsAs nothing r (go mid) after → RunsAs nothing r (with_look l at go) after
look_went l r at mid after go is h = along nothing r _ (go mid) after (with_look_is l at go ∙ ap (λ d. and_then d (λ u. go)) is) h

pub look_broke : {A : Type 0} (l : Look) (e : Break) (at after : At Log) (go : At Log → Ends Never Log A) → BreaksAs nothing e (kept_or_size (looked l at.world) at) after → BreaksAs nothing e (with_look l at go) after
look_broke l e at after go h = along nothing (Err e) _ _ after (with_look_is l at go) (broke nothing e (kept_or_size (looked l at.world) at) (λ u. go) after h)

-- a write, as it is recorded
pub wrote_is : (base : Versions) (table key : List ℕ) (left : Option Val) (at : At Log) → (let writes = with_write at.world.writes table key left in if nat_lt 1024 (length writes) then Failed (codes "size") at else Goes tt (record at { world = record { looks = at.world.looks; writes = writes } })) ≡ kept_or_size (wrote_key (record { table = table; key = key }) left at.world) at
wrote_is base table key left at =
    by_if_kept (nat_lt 1024 (length (with_write at.world.writes table key left))) at (record { looks = at.world.looks; writes = with_write at.world.writes table key left })

-- a write at a key that fits
pub put_went : (base : Versions) (table table' : List ℕ) (k : Val) (t : List ℕ) (left : Option Val) (at after : At Log) (r : Result (Unit {0}) Break) → table' ≡ table → text_or_word fits_key (text_of k) ≡ Ok t → RunsAs nothing r (kept_or_size (wrote_key (record { table = table'; key = t }) left at.world) at) after → RunsAs nothing r (txn.wrote base table left k at) after
put_went base table table' k t left at after r same is h =
    let P : List ℕ → Type 0 = λ x. RunsAs nothing r (kept_or_size (wrote_key (record { table = x; key = t }) left at.world) at) after in
    text_went fits_key (text_of k) t r at after (λ key. let writes = with_write at.world.writes table key left in if nat_lt 1024 (length writes) then Failed (codes "size") at else Goes tt (record at { world = record { looks = at.world.looks; writes = writes } })) is
    (along nothing r _ (kept_or_size (wrote_key (record { table = table; key = t }) left at.world) at) after (wrote_is base table t left at) (subst P same h))

-- a read at a key that fits
pub get_went : (base : Versions) (table table' : List ℕ) (k : Val) (t : List ℕ) (at after : At Log) (r : Result Val Break) → table' ≡ table → text_or_word fits_key (text_of k) ≡ Ok t → RunsAs nothing r (txn.got_by base (txn.written_at at.world.writes table' t) table' t at) after → RunsAs nothing r (txn.got base table k at) after
get_went base table table' k t at after r same is h =
    let P : List ℕ → Type 0 = λ x. RunsAs nothing r (txn.got_by base (txn.written_at at.world.writes x t) x t at) after in
    text_went fits_key (text_of k) t r at after (λ key. txn.got_by base (txn.written_at at.world.writes table key) table key at) is (subst P same h)

abbrev scan_of : Versions → List ℕ → At Log → List ℕ → List ℕ → Ends Never Log Val
scan_of base table at from to = with_look (txn.found base table from to) at (taken (list_or_size (map pair_value (txn.rows_under at.world.writes table from to (txn.rows_at base table from to)))))

-- a scan between bounds that fit
pub scan_went : (base : Versions) (table : List ℕ) (lo hi : Val) (t u : List ℕ) (at after : At Log) (r : Result Val Break) → text_or_word fits_bound (text_of lo) ≡ Ok t → text_or_word fits_bound (text_of hi) ≡ Ok u → RunsAs nothing r (scan_of base table at t u) after → RunsAs nothing r (txn.scanned base table lo hi at) after
scan_went base table lo hi t u at after r is js h =
    text_went fits_bound (text_of lo) t r at after (λ from. with_text fits_bound (text_of hi) at (λ to. scan_of base table at from to)) is
    (text_went fits_bound (text_of hi) u r at after (λ to. scan_of base table at t to) js h)

-- a scan whose second bound doesn't fit
pub scan_broke : (base : Versions) (table : List ℕ) (lo hi : Val) (t : List ℕ) (e : Break) (at : At Log) → text_or_word fits_bound (text_of lo) ≡ Ok t → IsTextOrWord (Err e) (text_or_word fits_bound (text_of hi)) → RunsAs nothing (Err e) (txn.scanned base table lo hi at) at
scan_broke base table lo hi t e at is h =
    text_went fits_bound (text_of lo) t (Err e) at at (λ from. with_text fits_bound (text_of hi) at (λ to. scan_of base table at from to)) is
    (text_broke fits_bound (text_of hi) e at (λ to. scan_of base table at t to) h)

abbrev pub with_version : Versions → List ℕ → List ℕ → List ℕ × ℕ
with_version base table key = (key, base.version table key)

abbrev pub row_at : Versions → List ℕ → List ℕ → Row
row_at base table key = (key, or_null (base.cell table key))

-- the rows of keys with their versions
pub rows_from_keys : (base : Versions) (table : List ℕ) (keys : List (List ℕ)) → map (key_row base table) (map (with_version base table) keys) ≡ map (row_at base table) keys
rows_from_keys base table [] = refl
rows_from_keys base table (k ∷ keys) = ap (λ l. row_at base table k ∷ l) (rows_from_keys base table keys)
