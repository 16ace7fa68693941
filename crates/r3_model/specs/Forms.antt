-- Which line of a script the JSON of a line is. An object of a form has just the form's keys.
use Rattle.std.specs.Prelude.{ℕ, ℤ, pos, negsuc, ◌+◌, ◌==◌, ◌&&◌, Bool, false, List, [], ◌∷◌, length, Option, Some, None, option_map, option_and_then, Result, Ok, Err, if◌then◌else◌, nat_le, codes}
use Rattle.std.specs.Option.{option_map_or}
use Rattle.serde_json.specs.Data.{Data, null, string, array, Members, no_members, member}
use Rattle.serde_json.specs.Find.{get, as_str, as_object, as_number, as_i64}
use Rattle.r3_value.specs.declared.value.Val.{Val}
use Rattle.r3_value.specs.Value.{Value}
use Rattle.r3_value.specs.View.{val_of}
use Rattle.r3_json.specs.declared.fault.JsonFault.{JsonFault}
use Rattle.r3_json.specs.Values.{value_from}
use Rattle.r3_json.specs.Lines.{parse}
use Rattle.sys_flow.specs.declared.command.Command.TheVariants.{Load, Start, Enqueue, Cancel, Resume, Fork}
use Rattle.r3_model.specs.Language.{Text}
use Rattle.r3_model.specs.Event.{Event, Run, Turn, Dequeue, ShowStatus, GetRow}
use Rattle.r3_model.specs.Script.{Line, Does, Drain, Unread, Unformed}

-- ---- the member of a key, where it is of the wanted kind

abbrev pub text_at : Text → Data → Option Text
text_at key d = option_and_then as_str (get key d)

-- a text, or null where the machine is to make an ID
abbrev pub id_from : Data → Option (Option Text)
id_from (string s) = Some (Some s)
id_from null = Some None
id_from d = None

abbrev pub id_at : Text → Data → Option (Option Text)
id_at key d = option_and_then id_from (get key d)

-- a row key has 1 to 256 bytes
abbrev pub is_row_key : Text → Bool
is_row_key key = nat_le 1 (length key) && nat_le (length key) 256

abbrev pub key_at : Text → Data → Option Text
key_at key d = option_and_then (λ s. if is_row_key s then Some s else None) (text_at key d)

abbrev pub within : ℕ → ℕ → ℤ → Option ℕ
within least most (pos n) = if nat_le least n && nat_le n most then Some n else None
within least most (negsuc n) = None

-- a whole number from the least to the most
abbrev pub number_at : ℕ → ℕ → Text → Data → Option ℕ
number_at least most key d =
    option_and_then (within least most) (option_and_then as_i64 (option_and_then as_number (get key d)))

abbrev pub val_from : Result Value JsonFault → Option Val
val_from (Ok v) = Some (val_of v)
val_from (Err e) = None

-- a list that is a value
abbrev pub args_from : Data → Option Val
args_from (array ds) = val_from (value_from (array ds))
args_from d = None

abbrev pub args_at : Text → Data → Option Val
args_at key d = option_and_then args_from (get key d)

-- ---- rows

abbrev pub row_from : Text → Data → Option (Text × Val)
row_from key d = if is_row_key key then option_map (λ v. (key, v)) (val_from (value_from d)) else None

abbrev pub and_row : Option (Text × Val) → Option (List (Text × Val)) → Option (List (Text × Val))
and_row (Some r) (Some rs) = Some (r ∷ rs)
and_row r rs = None

-- the members as rows, where each is one
abbrev pub rows_from : Members → Option (List (Text × Val))
rows_from no_members = Some []
rows_from (member key d ms) = and_row (row_from key d) (rows_from ms)

abbrev pub count_of : Members → ℕ
count_of no_members = 0
count_of (member key d ms) = 1 + count_of ms

-- 1 to 1,024 rows
abbrev pub rows_of : Members → Option (List (Text × Val))
rows_of ms = if nat_le 1 (count_of ms) && nat_le (count_of ms) 1024 then rows_from ms else None

abbrev pub rows_at : Text → Data → Option (List (Text × Val))
rows_at key d = option_and_then rows_of (option_and_then as_object (get key d))

-- ---- the forms

-- the object has so many members, and those that the form wants
abbrev pub of_size : ℕ → (Data → Option Line) → Data → Option Line
of_size n form d = if option_map_or (λ ms. count_of ms == n) (as_object d) false then form d else None

abbrev pub load_line : Data → Option Line
load_line d =
    option_and_then (λ table. option_map (λ rows. Does (Run (Load table rows)))
    (rows_at (codes "rows") d)) (text_at (codes "load") d)

abbrev pub start_line : Data → Option Line
start_line d =
    option_and_then (λ id. option_and_then (λ function. option_map (λ args. Does (Run (Start id function args)))
    (args_at (codes "args") d)) (text_at (codes "fn") d)) (id_at (codes "start") d)

abbrev pub enqueue_line : Data → Option Line
enqueue_line d =
    option_and_then (λ id. option_and_then (λ queue. option_and_then (λ function.
    option_map (λ args. Does (Run (Enqueue id queue function args)))
    (args_at (codes "args") d)) (text_at (codes "fn") d)) (text_at (codes "queue") d)) (id_at (codes "enqueue") d)

abbrev pub fork_line : Data → Option Line
fork_line d =
    option_and_then (λ source. option_and_then (λ step. option_map (λ to. Does (Run (Fork source step to)))
    (id_at (codes "to") d)) (number_at 0 1000 (codes "step") d)) (text_at (codes "fork") d)

abbrev pub get_line : Data → Option Line
get_line d =
    option_and_then (λ table. option_map (λ key. Does (GetRow table key)) (key_at (codes "key") d))
    (text_at (codes "get") d)

-- a form of one key, with a text
abbrev pub one_text : Text → (Text → Event) → Data → Option Line
one_text key event d = option_map (λ s. Does (event s)) (text_at key d)

abbrev pub drain_line : Data → Option Line
drain_line d = option_map (λ n. Drain n) (number_at 1 1000000 (codes "drain") d)

abbrev pub forms : List (Data → Option Line)
forms =
    of_size 2 load_line ∷ of_size 3 start_line ∷ of_size 4 enqueue_line ∷ of_size 3 fork_line ∷ of_size 2 get_line
    ∷ of_size 1 (one_text (codes "cancel") (λ id. Run (Cancel id)))
    ∷ of_size 1 (one_text (codes "resume") (λ id. Run (Resume id)))
    ∷ of_size 1 (one_text (codes "turn") (λ id. Turn id))
    ∷ of_size 1 (one_text (codes "dequeue") (λ queue. Dequeue queue))
    ∷ of_size 1 (one_text (codes "status") (λ id. ShowStatus id)) ∷ of_size 1 drain_line ∷ []

abbrev pub line_or : Option Line → Line → Line
line_or None other = other
line_or (Some line) other = line

-- no two forms have the same keys
abbrev pub line_among : List (Data → Option Line) → Data → Line
line_among [] d = Unformed
line_among (form ∷ more) d = line_or (form d) (line_among more d)

abbrev pub line_read : Option Data → Line
line_read None = Unread
line_read (Some d) = line_among forms d

-- a line of a script, from its bytes
abbrev pub line_of : Text → Line
line_of bytes = line_read (parse bytes)
