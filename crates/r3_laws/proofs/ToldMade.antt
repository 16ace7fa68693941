-- On a made history each workflow's recorded steps are what it asked for, and so no turn is unexpected.
use Rattle.std.proofs.Common.{◌≡◌, ◌≢◌, ℕ, List, [], ◌∷◌, ◌++◌, map, length, Some, None, refl, sym, subst, ap, ◌∙◌, arith}
use Rattle.std.proofs.lemmas.List.{append_assoc, append-nil}
use Rattle.r3_rows.specs.declared.rows.FlowRow.{FlowRow}
use Rattle.r3_rows.specs.declared.rows.Status.TheVariants as status
use Rattle.r3_rows.specs.declared.rows.StepRow.{StepRow}
use Rattle.r3_entry.specs.declared.entry.Entry.{Entry}
use Rattle.r3_model.specs.Language.{Text, Language}
use Rattle.fn_tree.specs.declared.flow.FlowEnd.TheVariants.{Unexpected}
use Rattle.r3_model.specs.Rows.{flow_at, answer_of}
use Rattle.r3_model.specs.Turns.{flow_end}
use Rattle.r3_model.specs.Schedule.{event_of}
use Rattle.r3_model.specs.Made.{Agrees, AllAgree, IsMade, recorded}
use Rattle.r3_model.specs.Lawful.{IsLawful}
use Rattle.r3_laws.proofs.Cases.{Case}
use Rattle.r3_laws.proofs.CasesOf.{case-of}
use Rattle.r3_laws.proofs.Expected.{never-unexpected}
use Rattle.r3_laws.proofs.Told.{Told, told-steps}
use Rattle.r3_laws.proofs.ToldBy.{case-told}

pub agrees-case : (P : Language) (h : List Entry) (e : Entry) → Agrees P h e → Case P h (event_of e) (Some e.snap) (recorded e e.act) e
agrees-case P h e a = case-of P h (Some e.snap) (recorded e e.act) e a.reply (event_of e) a.gives

module _ (P : Language) (lawful : IsLawful P) where
  pub told-none : (id : Text) → Told P [] id
  told-none id = record { steps = []; few = omega arith; are = λ n. refl; fresh = λ gone. refl; asked = λ row there. absurd (let e : None ≡ Some row = there in cc) }

  told-all : (h es : List Entry) → ((id : Text) → Told P h id) → AllAgree P h es → (id : Text) → Told P (h ++ es) id
  told-all h [] told all id = let Of : List Entry → Type 0 = λ g. Told P g id in subst Of (sym (append-nil h)) (told id)
  told-all h (e ∷ es) told all id =
      let Of : List Entry → Type 0 = λ g. Told P g id in
      subst Of (append_assoc h (e ∷ []) es) (told-all (h ++ e ∷ []) es (λ i. case-told P lawful h told e i (agrees-case P h e all.0)) all.1 id)

  pub made-told : (h : List Entry) → IsMade P h → (id : Text) → Told P h id
  made-told h made = told-all [] h told-none made

pub expects-all : (P : Language) (h : List Entry) (id : Text) (row : FlowRow) → IsLawful P → IsMade P h → flow_at h (length h) id ≡ Some row → row.status ≡ status.Pending
    → (n : ℕ) (recorded asked : Text) → flow_end P h id row ≢ Unexpected n recorded asked
expects-all P h id row lawful made there runs n recorded asked is =
    let t : Told P h id = made-told P lawful h made id in
    never-unexpected P row.function row.args lawful t.steps (t.asked row there) n recorded asked
    (ap (λ (s : List StepRow). P.flow row.function row.args (map answer_of s)) (sym (told-steps P h id t)) ∙ is)
