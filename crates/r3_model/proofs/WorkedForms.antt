-- Worked cases of lines: one of each kind that is a form, and some that are none. And the first lines of the generator.
use Rattle.std.proofs.Common.{◌≡◌, ℕ, List, [], ◌∷◌, Some, None, refl, take, pos}
use Rattle.std.specs.Prelude.{codes}
use Rattle.std.specs.Fmt.{digits}
use Rattle.serde_json.specs.Data.{Num, unsigned, float, Data, null, number, string, array, object, item, no_items, member, no_members}
use Rattle.r3_value.specs.declared.value.Val.TheVariants.{Int, List as ListOf}
use Rattle.r3_value.specs.Value as value
use Rattle.sys_flow.specs.declared.command.Command.TheVariants.{Load, Start, Fork}
use Rattle.r3_model.specs.Event.{Run, Turn}
use Rattle.r3_model.specs.Script.{Line, Does, Drain, Unread, Unformed}
use Rattle.r3_model.specs.Forms.{forms, line_among, line_read}
use Rattle.r3_model.specs.Generator.{generated, transfer, accounts, drawn}

abbrev line : Data → Line
line d = line_read (Some d)

abbrev whole : ℕ → Data
whole n = number (unsigned n)

a_load : line (object (member (codes "load") (string (codes "acct")) (member (codes "rows") (object (member (codes "a") (whole 10) no_members)) no_members)))
    ≡ Does (Run (Load (codes "acct") ((codes "a", Int (pos 10)) ∷ [])))
a_load = refl

-- an empty row key
a_load_of_no_key : line (object (member (codes "load") (string (codes "acct")) (member (codes "rows") (object (member [] (whole 10) no_members)) no_members))) ≡ Unformed
a_load_of_no_key = refl

a_start_without_an_id : line (object (member (codes "args") (array no_items) (member (codes "fn") (string (codes "odd")) (member (codes "start") null no_members))))
    ≡ Does (Run (Start None (codes "odd") (ListOf value.no_items)))
a_start_without_an_id = refl

-- a member more than the form has
a_turn_with_more : line (object (member (codes "turn") (string (codes "m1")) (member (codes "x") null no_members))) ≡ Unformed
a_turn_with_more = refl

a_turn : line (object (member (codes "turn") (string (codes "m1")) no_members)) ≡ Does (Turn (codes "m1"))
a_turn = refl

a_fork : line (object (member (codes "fork") (string (codes "m1")) (member (codes "step") (whole 1000) (member (codes "to") null no_members))))
    ≡ Does (Run (Fork (codes "m1") 1000 None))
a_fork = refl

a_fork_too_far : line (object (member (codes "fork") (string (codes "m1")) (member (codes "step") (whole 1001) (member (codes "to") null no_members)))) ≡ Unformed
a_fork_too_far = refl

a_drain_of_none : line (object (member (codes "drain") (whole 0) no_members)) ≡ Unformed
a_drain_of_none = refl

a_drain : line (object (member (codes "drain") (whole 1000000) no_members)) ≡ Drain 1000000
a_drain = refl

no_json : line_read None ≡ Unread
no_json = refl

-- three draws from 7, and one start, which is the last
one_transfer : generated 7 1 ≡ accounts ∷ transfer 0 (drawn 7) (drawn (drawn 7)) (drawn (drawn (drawn 7))) ∷ Drain 1000 ∷ []
one_transfer = refl

the_first_draw : drawn 7 ≡ 176504327430
the_first_draw = refl
