-- An entry that agrees is what the machine appends at its event.
use Rattle.std.proofs.Common.{◌≡◌, List, [], ◌∷◌, ◌++◌, Option, Some, sym, subst, ap, ◌∙◌}
use Rattle.std.proofs.lemmas.List.{append_assoc, append-nil}
use Rattle.r3_entry.specs.declared.entry.Entry.{Entry}
use Rattle.r3_model.specs.Language.{Language}
use Rattle.r3_model.specs.Event.{Limit}
use Rattle.r3_model.specs.Given.{Given, Enters}
use Rattle.r3_model.specs.Machine.{State, given, came, entered, snap_of, stepped}
use Rattle.r3_model.specs.Schedule.{event_of}
use Rattle.r3_model.specs.Made.{Agrees, AllAgree, IsMade, recorded}

-- with the entry's snapshot open, if it asks for one, and the outcome that it records
pub agrees-steps : (P : Language) (st : State) (e : Entry) (a : Agrees P st.history e)
    → given P st.history (event_of e) (snap_of st.begun (event_of e)) (recorded e e.act) ≡ given P st.history (event_of e) (Some e.snap) (recorded e e.act)
    → (stepped P st (event_of e) (recorded e e.act)).state.history ≡ st.history ++ e ∷ []
agrees-steps P st e a same =
    let gives : given P st.history (event_of e) (snap_of st.begun (event_of e)) (recorded e e.act) ≡ Enters e a.reply = same ∙ a.gives in
    ap (λ (g : Given). (came st (event_of e) g).0.history) gives ∙ ap (λ (o : Option Limit). (entered st e a.reply o).0.history) a.fits

-- what was made before stays made
pub agree-before : (P : Language) (h es more : List Entry) → AllAgree P h (es ++ more) → AllAgree P h es
agree-before P h [] more all = tt
agree-before P h (e ∷ es) more all = (all.0, agree-before P (h ++ e ∷ []) es more all.1)

pub made-before : (P : Language) (h more : List Entry) → IsMade P (h ++ more) → IsMade P h
made-before P h more made = agree-before P [] h more made

-- and one more entry that agrees is made too
pub agree-push : (P : Language) (h es : List Entry) (e : Entry) → AllAgree P h es → Agrees P (h ++ es) e → AllAgree P h (es ++ e ∷ [])
agree-push P h [] e all a = (let Of : List Entry → Type 0 = λ g. Agrees P g e in subst Of (append-nil h) a, tt)
agree-push P h (x ∷ xs) e all a = (all.0, agree-push P (h ++ x ∷ []) xs e all.1 (let Of : List Entry → Type 0 = λ g. Agrees P g e in subst Of (sym (append_assoc h (x ∷ []) xs)) a))

pub made-push : (P : Language) (h : List Entry) (e : Entry) → IsMade P h → Agrees P h e → IsMade P (h ++ e ∷ [])
made-push P h e made a = agree-push P [] h e made a
