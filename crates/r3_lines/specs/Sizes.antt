-- The forms of a line, by the number of their members.
use Rattle.std.specs.Prelude.{ℕ, ◌==◌, Option, None, codes, if◌then◌else◌}
use Rattle.std.specs.Option.{option_map_or}
use Rattle.serde_json.specs.Data.{Data}
use Rattle.serde_json.specs.Find.{as_object}
use Rattle.r3_model.specs.Event.{Run, Turn, Dequeue, ShowStatus}
use Rattle.sys_flow.specs.declared.command.Command.TheVariants.{Cancel, Resume}
use Rattle.r3_model.specs.Script.{Line, Unformed}
use Rattle.r3_model.specs.Forms.{count_of, load_line, start_line, enqueue_line, fork_line, get_line, drain_line, one_text, line_or}

-- how many members an object has; no other JSON has any
abbrev pub size_of : Data → ℕ
size_of d = option_map_or count_of (as_object d) 0

abbrev pub sized : ℕ → ℕ → (Data → Option Line) → Data → Option Line
sized size n form d = if size == n then form d else None

-- the line of an object of so many members
abbrev pub among : ℕ → Data → Line
among size d =
    line_or (sized size 2 load_line d)
    (line_or (sized size 3 start_line d) (line_or (sized size 4 enqueue_line d)
    (line_or (sized size 3 fork_line d) (line_or (sized size 2 get_line d)
    (line_or (sized size 1 (one_text (codes "cancel") (λ id. Run (Cancel id))) d)
    (line_or (sized size 1 (one_text (codes "resume") (λ id. Run (Resume id))) d)
    (line_or (sized size 1 (one_text (codes "turn") (λ id. Turn id)) d)
    (line_or (sized size 1 (one_text (codes "dequeue") (λ queue. Dequeue queue)) d)
    (line_or (sized size 1 (one_text (codes "status") (λ id. ShowStatus id)) d)
    (line_or (sized size 1 drain_line d) Unformed))))))))))
