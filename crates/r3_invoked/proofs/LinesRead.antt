-- Which lines a script can have, and the generator has.
use Rattle.std.proofs.Common.{◌≡◌, ℕ, suc, zero, ◌+◌, ◌≤◌, Bool, true, false, List, [], ◌∷◌, ◌++◌, length, map, Option, Some, None, refl, sym, subst, arith}
use Rattle.std.specs.Prelude.{◌==◌, ◌&&◌, ◌%◌, codes, if◌then◌else◌, nat_le, option_map, option_and_then, ⊤}
use Rattle.std.specs.List.{AllByRecursion}
use Rattle.std.specs.Option.{option_map_or}
use Rattle.serde_json.specs.Data.{Data, Members, no_members, member}
use Rattle.serde_json.specs.Find.{get, as_object}
use Rattle.r3_json.specs.Lines.{parse}
use Rattle.r3_value.specs.declared.value.Val.{Val}
use Rattle.sys_flow.specs.declared.command.Command.TheVariants.{Load, Start, Enqueue, Cancel, Resume, Fork}
use Rattle.r3_model.specs.Language.{Text}
use Rattle.r3_model.specs.Event.{Event, Run, Turn, Dequeue, ShowStatus, GetRow}
use Rattle.r3_model.specs.Forms.{and_row, args_at, count_of, drain_line, enqueue_line, fork_line, forms, get_line, id_at, key_at, line_among, line_of, line_or, line_read, load_line, number_at, of_size, one_text, row_from, rows_at, rows_from, rows_of, start_line, text_at}
use Rattle.r3_model.specs.Generator.{drain_after, drawn, generated, transfers}
use Rattle.r3_model.specs.Script.{Line, Does, Drain}
use Rattle.r3_repeats.specs.Steps.{IsOfScript}
use Rattle.r3_invoked.specs.Left.{AreBegun, before_it, with_it, within_it}

abbrev Kept : Option Line → Type 0
Kept None = ⊤
Kept (Some line) = IsOfScript line

-- ---- the rows of a load are as many as the members

abbrev Counted : ℕ → Option (List (Text × Val)) → Type 0
Counted n None = ⊤
Counted n (Some rows) = length rows ≡ n

one-more : (n : ℕ) (r : Option (Text × Val)) (rs : Option (List (Text × Val))) → Counted n rs → Counted (1 + n) (and_row r rs)
one-more n None rs is = tt
one-more n (Some r) None is = tt
one-more n (Some r) (Some rs) is = omega (arith, is)

rows-counted : (ms : Members) → Counted (count_of ms) (rows_from ms)
rows-counted no_members = refl
rows-counted (member key d ms) = one-more (count_of ms) (row_from key d) (rows_from ms) (rows-counted ms)

-- 1 to 1,024 of them
abbrev Few : Option (List (Text × Val)) → Type 0
Few None = ⊤
Few (Some rows) = (1 ≤ length rows) × (length rows ≤ 1024)

some-few : (n : ℕ) (rows : Option (List (Text × Val))) → Counted n rows → 1 ≤ n → n ≤ 1024 → Few rows
some-few n None is least most = tt
some-few n (Some rows) is least most = (omega (arith, is, least), omega (arith, is, most))

few-if : (n : ℕ) (rows : Option (List (Text × Val))) → Counted n rows → (a b : Bool) → nat_le 1 n ≡ a → nat_le n 1024 ≡ b → Few (if a && b then rows else None)
few-if n rows is true true least most = some-few n rows is (grind arith) (grind arith)
few-if n rows is true false least most = tt
few-if n rows is false b least most = tt

rows-few : (ms : Members) → Few (rows_of ms)
rows-few ms = few-if (count_of ms) (rows_from ms) (rows-counted ms) (nat_le 1 (count_of ms)) (nat_le (count_of ms) 1024) refl refl

found-few : (o : Option Members) → Few (option_and_then rows_of o)
found-few None = tt
found-few (Some ms) = rows-few ms

-- ---- the forms

then-kept : {X : Type 0} (f : X → Option Line) (o : Option X) → ((x : X) → Kept (f x)) → Kept (option_and_then f o)
then-kept f None each = tt
then-kept f (Some x) each = each x

map-kept : {X : Type 0} (f : X → Line) (o : Option X) → ((x : X) → IsOfScript (f x)) → Kept (option_map f o)
map-kept f None each = tt
map-kept f (Some x) each = each x

load-kept : (table : Text) (rows : Option (List (Text × Val))) → Few rows → Kept (option_map (λ (rs : List (Text × Val)). Does (Run (Load table rs))) rows)
load-kept table None few = tt
load-kept table (Some rows) few = few

loads : (d : Data) → Kept (load_line d)
loads d = then-kept (λ (table : Text). option_map (λ (rows : List (Text × Val)). Does (Run (Load table rows))) (rows_at (codes "rows") d)) (text_at (codes "load") d)
    (λ table. load-kept table (rows_at (codes "rows") d) (found-few (option_and_then as_object (get (codes "rows") d))))

starts : (d : Data) → Kept (start_line d)
starts d = then-kept (λ (id : Option Text). option_and_then (λ (function : Text). option_map (λ (args : Val). Does (Run (Start id function args))) (args_at (codes "args") d)) (text_at (codes "fn") d)) (id_at (codes "start") d)
    (λ id. then-kept (λ (function : Text). option_map (λ (args : Val). Does (Run (Start id function args))) (args_at (codes "args") d)) (text_at (codes "fn") d)
    (λ function. map-kept (λ (args : Val). Does (Run (Start id function args))) (args_at (codes "args") d) (λ args. tt)))

enqueues : (d : Data) → Kept (enqueue_line d)
enqueues d = then-kept (λ (id : Option Text). option_and_then (λ (queue : Text). option_and_then (λ (function : Text). option_map (λ (args : Val). Does (Run (Enqueue id queue function args))) (args_at (codes "args") d)) (text_at (codes "fn") d)) (text_at (codes "queue") d)) (id_at (codes "enqueue") d)
    (λ id. then-kept (λ (queue : Text). option_and_then (λ (function : Text). option_map (λ (args : Val). Does (Run (Enqueue id queue function args))) (args_at (codes "args") d)) (text_at (codes "fn") d)) (text_at (codes "queue") d)
    (λ queue. then-kept (λ (function : Text). option_map (λ (args : Val). Does (Run (Enqueue id queue function args))) (args_at (codes "args") d)) (text_at (codes "fn") d)
    (λ function. map-kept (λ (args : Val). Does (Run (Enqueue id queue function args))) (args_at (codes "args") d) (λ args. tt))))

forks : (d : Data) → Kept (fork_line d)
forks d = then-kept (λ (source : Text). option_and_then (λ (step : ℕ). option_map (λ (to : Option Text). Does (Run (Fork source step to))) (id_at (codes "to") d)) (number_at 0 1000 (codes "step") d)) (text_at (codes "fork") d)
    (λ source. then-kept (λ (step : ℕ). option_map (λ (to : Option Text). Does (Run (Fork source step to))) (id_at (codes "to") d)) (number_at 0 1000 (codes "step") d)
    (λ step. map-kept (λ (to : Option Text). Does (Run (Fork source step to))) (id_at (codes "to") d) (λ to. tt)))

gets : (d : Data) → Kept (get_line d)
gets d = then-kept (λ (table : Text). option_map (λ (key : Text). Does (GetRow table key)) (key_at (codes "key") d)) (text_at (codes "get") d)
    (λ table. map-kept (λ (key : Text). Does (GetRow table key)) (key_at (codes "key") d) (λ key. tt))

texts : (key : Text) (event : Text → Event) → ((s : Text) → IsOfScript (Does (event s))) → (d : Data) → Kept (one_text key event d)
texts key event each d = map-kept (λ (s : Text). Does (event s)) (text_at key d) each

drains : (d : Data) → Kept (drain_line d)
drains d = map-kept (λ (n : ℕ). Drain n) (number_at 1 1000000 (codes "drain") d) (λ n. tt)

either : (b : Bool) (o : Option Line) → Kept o → Kept (if b then o else None)
either true o is = is
either false o is = tt

abbrev Keeps : (Data → Option Line) → Type 0
Keeps form = (d : Data) → Kept (form d)

sized : (n : ℕ) (form : Data → Option Line) → Keeps form → Keeps (of_size n form)
sized n form keeps d = either (option_map_or (λ (ms : Members). count_of ms == n) (as_object d) false) (form d) (keeps d)

or-kept : (o : Option Line) (other : Line) → Kept o → IsOfScript other → IsOfScript (line_or o other)
or-kept None other is rest = rest
or-kept (Some line) other is rest = is

among-kept : (all : List (Data → Option Line)) → AllByRecursion Keeps all → (d : Data) → IsOfScript (line_among all d)
among-kept [] keep d = tt
among-kept (form ∷ more) keep d = or-kept (form d) (line_among more d) (keep.0 d) (among-kept more keep.1 d)

forms-keep : AllByRecursion Keeps forms
forms-keep = (
  sized 2 load_line loads,
  (
    sized 3 start_line starts,
    (
      sized 4 enqueue_line enqueues,
      (
        sized 3 fork_line forks,
        (
          sized 2 get_line gets,
          (
            sized 1 (one_text (codes "cancel") (λ (id : Text). Run (Cancel id))) (texts (codes "cancel") (λ (id : Text). Run (Cancel id)) (λ s. tt)),
            (
              sized 1 (one_text (codes "resume") (λ (id : Text). Run (Resume id))) (texts (codes "resume") (λ (id : Text). Run (Resume id)) (λ s. tt)),
              (
                sized 1 (one_text (codes "turn") (λ (id : Text). Turn id)) (texts (codes "turn") (λ (id : Text). Turn id) (λ s. tt)),
                (
                  sized 1 (one_text (codes "dequeue") (λ (queue : Text). Dequeue queue)) (texts (codes "dequeue") (λ (queue : Text). Dequeue queue) (λ s. tt)),
                  (
                    sized 1 (one_text (codes "status") (λ (id : Text). ShowStatus id)) (texts (codes "status") (λ (id : Text). ShowStatus id) (λ s. tt)),
                    (sized 1 drain_line drains, tt),
                  ),
                ),
              ),
            ),
          ),
        ),
      ),
    ),
  ),
)

read-kept : (o : Option Data) → IsOfScript (line_read o)
read-kept None = tt
read-kept (Some d) = among-kept forms forms-keep d

pub line-kept : (bytes : Text) → IsOfScript (line_of bytes)
line-kept bytes = read-kept (parse bytes)

-- ---- lists of lines

abbrev AllKept : List Line → Type 0
AllKept lines = AllByRecursion IsOfScript lines

all-append : (xs ys : List Line) → AllKept xs → AllKept ys → AllKept (xs ++ ys)
all-append [] ys a b = b
all-append (x ∷ xs) ys a b = (a.0, all-append xs ys a.1 b)

all-first : (xs ys : List Line) → AllKept (xs ++ ys) → AllKept xs
all-first [] ys all = tt
all-first (x ∷ xs) ys all = (all.0, all-first xs ys all.1)

pub done-kept : (lines done later : List Line) → AllKept lines → lines ≡ done ++ later → AllKept done
done-kept lines done later all is = all-first done later (subst AllKept is all)

pub lines-kept : (texts : List Text) → AllKept (map line_of texts)
lines-kept [] = tt
lines-kept (s ∷ texts) = (line-kept s, lines-kept texts)

pub begun-kept : (lines : List Line) (line : Line) (begun : List Line) → AllKept (lines ++ line ∷ []) → AreBegun lines line begun → AllKept begun
begun-kept lines line begun all (before_it is) = subst AllKept (sym is) (all-first lines (line ∷ []) all)
begun-kept lines line begun all (with_it is) = subst AllKept (sym is) all
begun-kept lines line begun all (within_it turns done line_is le is) =
    subst AllKept (sym is) (all-append lines (Drain done ∷ []) (all-first lines (line ∷ []) all) (tt, tt))

-- ---- the generator's lines

if-kept : (b : Bool) (lines : List Line) → AllKept lines → AllKept (if b then lines else [])
if-kept true lines all = all
if-kept false lines all = tt

drain-kept : (i left : ℕ) → AllKept (drain_after i left)
drain-kept i zero = (tt, tt)
drain-kept i (suc left) = if-kept ((i + 1) % 8 == 0) (Drain 1000 ∷ []) (tt, tt)

transfers-kept : (i left x : ℕ) → AllKept (transfers i left x)
transfers-kept i zero x = tt
transfers-kept i (suc left) x =
    (tt, all-append (drain_after i left) (transfers (i + 1) left (drawn (drawn (drawn x)))) (drain-kept i left) (transfers-kept (i + 1) left (drawn (drawn (drawn x)))))

pub generated-kept : (number count : ℕ) → AllKept (generated number count)
generated-kept number count = ((omega arith, omega arith), transfers-kept 0 count number)
