-- A worked call: what is said, and what a crash leaves at least.
use Rattle.std.proofs.Common.{◌≡◌, List, [], ◌∷◌, Some, refl, pos}
use Rattle.std.specs.Prelude.{codes}
use Rattle.std.specs.Fmt.{digits}
use Rattle.serde_json.proofs.OnLiterals.{serde_json_on_literals}
use Rattle.r3_value.specs.declared.value.Val.TheVariants.{Null, Int, Text as TextVal}
use Rattle.r3_value.specs.declared.value.Outcome.TheVariants as outcomes
use Rattle.r3_model.specs.Event.{Run}
use Rattle.sys_flow.specs.declared.command.Command.TheVariants.{Load, Start}
use Rattle.r3_model.specs.Held.{Said, Asked}
use Rattle.r3_model.specs.Script.{Line, Does, Drain, Unread, Told, called, said_text, held_by}
use Rattle.r3_model.proofs.Bank.{bank, args3}

abbrev lines : List Line
lines =
    Does (Run (Load (codes "acct") ((codes "a", Int (pos 10)) ∷ (codes "b", Int (pos 5)) ∷ [])))
    ∷ Does (Run (Start (Some (codes "m1")) (codes "move") (args3 (TextVal (codes "a")) (TextVal (codes "b")) (Int (pos 3)))))
    ∷ Unread ∷ Drain 100 ∷ []

abbrev told : Told
told = called bank (codes "bank") [] lines (Some (outcomes.Value Null) ∷ [])

said : said_text told ≡ codes "{\"entry\":2}\n{\"entry\":3,\"id\":\"m1\"}\n{\"refused\":\"syntax\"}\n{\"drain\":\"idle\",\"turns\":9}\n"
unfolding digits serde_json_on_literals
said = refl

-- the call is made in the drain, on four entries
marks : told.trail.marks ≡ Said 12 2 ∷ Said 22 3 ∷ Said 21 3 ∷ Asked 4 ∷ Said 27 6 ∷ []
unfolding digits serde_json_on_literals
marks = refl

held-before : held_by [] told 0 0 ≡ 0
unfolding digits serde_json_on_literals
held-before = refl

held-first_byte : held_by [] told 1 0 ≡ 2
unfolding digits serde_json_on_literals
held-first_byte = refl

held-asked : held_by [] told 55 1 ≡ 4
unfolding digits serde_json_on_literals
held-asked = refl

held-all : held_by [] told 56 1 ≡ 6
unfolding digits serde_json_on_literals
held-all = refl
