-- What is said of a call makes it one that goes by the machine.
use Rattle.std.proofs.Common.{◌≡◌, ◌⊎◌, inl, inr, ℕ, ◌≤◌, List, [], ◌∷◌, ◌++◌, map, take, length, Option, refl, sym, subst, ap, ◌∙◌, arith}
use Rattle.std.specs.Prelude.{flat_map}
use Rattle.std.proofs.Math.Nat.{max-le}
use Rattle.std.proofs.lemmas.List.{append_assoc, append-nil, take-append-le}
use Rattle.std.proofs.lemmas.List.Sums.{fold-append}
use Rattle.r3_value.specs.declared.value.Outcome.{Outcome}
use Rattle.fn_tree.specs.declared.program.Item.{Item}
use Rattle.r3_entry.specs.declared.entry.Entry.{Entry}
use Rattle.r3_entry.specs.Image.{IsHistoryOf}
use Rattle.r3_model.specs.Functions.{language_of}
use Rattle.r3_model.specs.Language.{Text, Language}
use Rattle.sys_flow.specs.declared.command.Command.TheVariants.{Recover}
use Rattle.r3_model.specs.Event.{Run, Reply, Call}
use Rattle.r3_model.specs.Held.{Mark, Said, said_by, owed, held}
use Rattle.r3_model.specs.Machine.{State}
use Rattle.r3_model.specs.Replies.{reply_text}
use Rattle.r3_model.specs.Run.{Trail, from_state, restarted, next, run, pending_ids}
use Rattle.r3_model.specs.Drain.{Plain, drained}
use Rattle.r3_model.specs.Script.{Line, Does, Drain, Unread, Unformed, Told, answered, saying, called, opened}
use Rattle.r3_recover.specs.Drained.{Drains, answers_of}
use Rattle.r3_recover.specs.Kept.{marks_on}
use Rattle.r3_recover.specs.Opened.{OpensTo}
use Rattle.r3_session.specs.Answered.{AnswersTo, IsPart}
use Rattle.r3_serve.specs.Held.{IsHeld, asked_marks}
use Rattle.r3_serve.specs.Served.{Voice, Loud, Quiet, said_of, marks_of, Calls, IsSaid}
use Rattle.r3_repeats.specs.Invocations.{Invocation, IsWhole, AreOnOneStore}
use Rattle.r3_repeats.specs.Steps.{IsOneOnStore}
use Rattle.r3_repeats.proofs.Placing.{begun, Counted, lines-counted, begun-counted}
use Rattle.r3_repeats.proofs.Holding.{called-grows, whole-goes}
use Rattle.r3_repeats.proofs.Growing.{Grows, grows-longer}
use Rattle.r3_invoked.specs.Left.{bytes_of, IsLeftBy, IsAllOf, AreBegun, before_it, with_it, within_it, AreOnOneDisk, IsOneOnDisk}
use Rattle.r3_invoked.proofs.Owed.{owed-fewer, owed-unsaid, owed-lower, owed-quiet, held-less, said-more}

module _ (P : Language) (text : Text) (h : List Entry) where
  -- ---- the machine has come to this history, with these marks, by these lines

  pub record HasCome (lines : List Line) (history : List Entry) (marks : List Mark) : Type 0 where
    pub answers : List (Option Outcome)
    pub history_is : (called P text h lines answers).trail.state.history ≡ history
    pub marks_are : (called P text h lines answers).trail.marks ≡ marks

  -- what is left holds what these marks owe
  pub left-by : (lines : List Line) (history : List Entry) (marks : List Mark) (n m len : ℕ) (image : List ℕ) → HasCome lines history marks
      → len ≤ length history → held (length h) marks n m ≤ len → IsHistoryOf (take len history) image → IsLeftBy P text h lines n m image
  left-by lines history marks n m len image come within kept is =
      let call : Invocation = record { text = text; before = h; lines = lines; answers = come.answers; said = n; asked = m; left = take len history } in
      let Of : List Mark → Type 0 = λ ms. held (length h) ms n m ≤ len in
      let In : List Entry → Type 0 = λ es. len ≤ length es in
      record {
        call = call;
        text_is = refl;
        before_is = refl;
        lines_are = refl;
        said_is = refl;
        asked_is = refl;
        goes = record {
          len = len;
          within = subst In (sym come.history_is) within;
          held_kept = subst Of (sym come.marks_are) kept;
          left_is = ap (λ (es : List Entry). take len es) (sym come.history_is);
        };
        holds = is;
      }

  -- all is left
  pub all-of : (lines : List Line) (history : List Entry) (marks : List Mark) (n m : ℕ) (image : List ℕ) → HasCome lines history marks → IsHistoryOf history image → IsAllOf P text h lines n m image
  all-of lines history marks n m image come is =
      let call : Invocation = record { text = text; before = h; lines = lines; answers = come.answers; said = n; asked = m; left = history } in
      let whole : IsWhole P call = sym come.history_is in
      record {
        by = record { call = call; text_is = refl; before_is = refl; lines_are = refl; said_is = refl; asked_is = refl; goes = whole-goes P call whole; holds = is };
        whole = whole;
      }

  -- ---- lines that were answered

  pub come-of : (lines : List Line) (after : State) (calls : List Call) (marks : List Mark) (replies : List Reply) → Calls P text h lines after calls marks replies → HasCome lines after.history marks
  come-of lines after calls marks replies machine =
      let t = machine [] in
      record { answers = answers_of calls ++ []; history_is = ap (λ (st : State). st.history) t.state; marks_are = t.marks_are }

  -- where no reply is said, and these marks owe all that the calls' do
  pub left-unsaid : (lines : List Line) (after : State) (calls : List Call) (marks : List Mark) (replies : List Reply) (owes : List Mark) (n m : ℕ) (image : List ℕ)
      → Calls P text h lines after calls marks replies → owed marks 0 m ≤ owed owes n m → IsHeld after.history (length h) owes n m image → IsLeftBy P text h lines 0 m image
  left-unsaid lines after calls marks replies owes n m image machine less is =
      left-by lines after.history marks 0 m is.len image (come-of lines after calls marks replies machine) is.within
      (held-less (length h) (owed marks 0 m) (owed owes n m) is.len less is.held_kept) is.history_of

  -- the marks of the replies count their bytes
  counts : (lines : List Line) (after : State) (calls : List Call) (marks : List Mark) (replies : List Reply) → Calls P text h lines after calls marks replies → said_by marks ≡ length (said_of Loud replies)
  counts lines after calls marks replies machine =
      let t = machine [] in
      let answers : List (Option Outcome) = answers_of calls ++ [] in
      let c : Counted P (called P text h lines answers) = lines-counted P (begun P text h answers) lines (begun-counted P text h answers) in
      ap (λ (ms : List Mark). said_by ms) (sym t.marks_are) ∙ c ∙ ap (λ (rs : List Reply). length (flat_map reply_text rs)) t.replies_are

  -- ---- a line that was begun

  module _ (lines : List Line) (line : Line) (calls : List Call) (marks : List Mark) (before : State) (replies : List Reply) (machine : Calls P text h lines before calls marks replies) where
    -- one line more, with its answers
    more : (one : Line) (answers : List (Option Outcome)) → called P text h (lines ++ one ∷ []) answers ≡ answered P (called P text h lines answers) one
    more one answers = fold-append (answered P) (begun P text h answers) lines (one ∷ [])

    -- the line was done whole, and this was its reply
    whole-come : (part_calls : List Call) (part_marks : List Mark) (after : State) (reply : Reply) → AnswersTo P line before after part_calls part_marks reply
        → HasCome (lines ++ line ∷ []) after.history ((marks ++ part_marks) ++ Said (length (reply_text reply)) (length after.history) ∷ [])
    whole-come part_calls part_marks after reply goes =
        let given : List (Option Outcome) = answers_of calls ++ (answers_of part_calls ++ []) in
        let t = machine (answers_of part_calls ++ []) in
        let x = goes (called P text h lines given) [] (t.state, t.answers) in
        let u : Trail = x.0 in
        let is : called P text h (lines ++ line ∷ []) given ≡ saying (called P text h lines given) u reply = more line given ∙ x.2 in
        record {
          answers = given;
          history_is = ap (λ (v : Told). v.trail.state.history) is ∙ ap (λ (st : State). st.history) x.1.state;
          marks_are =
              ap (λ (v : Told). v.trail.marks) is
              ∙ ap (λ (ms : List Mark). ms ++ Said (length (reply_text reply)) (length u.state.history) ∷ []) (x.1.marks_are ∙ ap (λ (ms : List Mark). ms ++ part_marks) t.marks_are)
              ∙ ap (λ (st : State). (marks ++ part_marks) ++ Said (length (reply_text reply)) (length st.history) ∷ []) x.1.state;
        }

    -- what was done of it: the machine has come there by lines that were begun, with all marks of its calls
    pub record IsDone (part_marks : List Mark) (after : State) : Type 0 where
      pub begun_lines : List Line
      pub are : AreBegun lines line begun_lines
      pub last : List Mark
      pub come : HasCome begun_lines after.history ((marks ++ part_marks) ++ last)
      pub unsaid : (n m : ℕ) → n ≤ said_by (marks ++ part_marks) → owed ((marks ++ part_marks) ++ last) n m ≤ owed (marks ++ part_marks) n m

    none-done : (part_marks : List Mark) (after : State) → after ≡ before → part_marks ≡ [] → IsDone part_marks after
    none-done part_marks after same none =
        let c : HasCome lines before.history marks = come-of lines before calls marks replies machine in
        let no_more : (marks ++ part_marks) ++ [] ≡ marks = append-nil (marks ++ part_marks) ∙ ap (λ (ms : List Mark). marks ++ ms) none ∙ append-nil marks in
        record {
          begun_lines = lines;
          are = before_it refl;
          last = [];
          come = record { answers = c.answers; history_is = c.history_is ∙ ap (λ (st : State). st.history) (sym same); marks_are = c.marks_are ∙ sym no_more };
          unsaid = λ n m le. let same_marks : owed ((marks ++ part_marks) ++ []) n m ≡ owed (marks ++ part_marks) n m = ap (λ (ms : List Mark). owed ms n m) (append-nil (marks ++ part_marks)) in omega (arith, same_marks);
        }

    all-done : (part_calls : List Call) (part_marks : List Mark) (after : State) (reply : Reply) → AnswersTo P line before after part_calls part_marks reply → IsDone part_marks after
    all-done part_calls part_marks after reply goes = record {
      begun_lines = lines ++ line ∷ [];
      are = with_it refl;
      last = Said (length (reply_text reply)) (length after.history) ∷ [];
      come = whole-come part_calls part_marks after reply goes;
      unsaid = λ n m le. owed-unsaid (marks ++ part_marks) (length (reply_text reply)) (length after.history) n m le;
    }

    -- so many turns of a drain
    drain-done : (turns done : ℕ) (part_calls : List Call) (part_marks : List Mark) (after : State) → line ≡ Drain turns → done ≤ turns → Drains P done before after part_calls part_marks → IsDone part_marks after
    drain-done turns done part_calls part_marks after line_is le goes =
        let given : List (Option Outcome) = answers_of calls ++ (answers_of part_calls ++ []) in
        let t = machine (answers_of part_calls ++ []) in
        let told : Told = called P text h lines given in
        let d = drained (next P) P.queues Plain done told.trail in
        let x = goes told.trail [] (t.state, t.answers) in
        let is : called P text h (lines ++ Drain done ∷ []) given ≡ saying told d.trail d.reply = more (Drain done) given in
        record {
          begun_lines = lines ++ Drain done ∷ [];
          are = within_it turns done line_is le refl;
          last = Said (length (reply_text d.reply)) (length after.history) ∷ [];
          come = record {
            answers = given;
            history_is = ap (λ (v : Told). v.trail.state.history) is ∙ ap (λ (st : State). st.history) x.state;
            marks_are =
                ap (λ (v : Told). v.trail.marks) is
                ∙ ap (λ (ms : List Mark). ms ++ Said (length (reply_text d.reply)) (length d.trail.state.history) ∷ []) (x.marks_are ∙ ap (λ (ms : List Mark). ms ++ part_marks) t.marks_are)
                ∙ ap (λ (st : State). (marks ++ part_marks) ++ Said (length (reply_text d.reply)) (length st.history) ∷ []) x.state;
          };
          unsaid = λ n m le. owed-unsaid (marks ++ part_marks) (length (reply_text d.reply)) (length after.history) n m le;
        }

    done-of : (one : Line) → line ≡ one → (part_calls : List Call) (part_marks : List Mark) (after : State) (last : List Call) → IsPart P one before after part_calls part_marks last → IsDone part_marks after
    done-of (Does ev) is part_calls part_marks after last (inl asking) = none-done part_marks after asking.0.0 asking.0.2
    done-of (Does ev) is part_calls part_marks after last (inr whole) =
        let Of : Line → Type 0 = λ x. AnswersTo P x before after part_calls part_marks whole.0 in
        all-done part_calls part_marks after whole.0 (subst Of (sym is) whole.1)
    done-of (Drain turns) is part_calls part_marks after last (inl draining) = drain-done turns draining.0 part_calls part_marks after is draining.1 draining.2
    done-of (Drain turns) is part_calls part_marks after last (inr whole) =
        let Of : Line → Type 0 = λ x. AnswersTo P x before after part_calls part_marks whole.0 in
        all-done part_calls part_marks after whole.0 (subst Of (sym is) whole.1)
    done-of Unread is part_calls part_marks after last part = none-done part_marks after part.0.0 part.0.2
    done-of Unformed is part_calls part_marks after last part = none-done part_marks after part.0.0 part.0.2

    -- what a crash leaves, where so many bytes were said
    abbrev LeftOf : ℕ → ℕ → List ℕ → Type 0
    LeftOf n m image = (begun_lines : List Line) × AreBegun lines line begun_lines × IsLeftBy P text h begun_lines n m image

    pub stopped-left : (part_calls last : List Call) (part_marks owes : List Mark) (after : State) (said_part : Text) (n m : ℕ) (image : List ℕ)
        → IsPart P line before after part_calls part_marks last → IsSaid Loud P line before after part_calls part_marks last said_part owes
        → n ≤ length (said_of Loud replies ++ said_part)
        → IsHeld after.history (length h) (marks ++ (part_marks ++ (marks_on after.history last ++ owes))) n m image → LeftOf n m image
    stopped-left part_calls last part_marks owes after said_part n m image part (inl unsaid) le held_is =
        let d : IsDone part_marks after = done-of line refl part_calls part_marks after last part in
        let all : List Mark = marks_on after.history last ++ owes in
        let bytes : length (said_of Loud replies ++ said_part) ≡ said_by marks =
        ap (λ (s : Text). length (said_of Loud replies ++ s)) unsaid.0 ∙ ap (λ (s : Text). length s) (append-nil (said_of Loud replies)) ∙ sym (counts lines before calls marks replies machine) in
        let few : n ≤ said_by (marks ++ part_marks) = omega (arith, le, bytes, said-more marks part_marks) in
        let same : owed ((marks ++ part_marks) ++ all) n m ≡ owed (marks ++ (part_marks ++ all)) n m = ap (λ (ms : List Mark). owed ms n m) (append_assoc marks part_marks all) in
        let less : owed ((marks ++ part_marks) ++ d.last) n m ≤ owed (marks ++ (part_marks ++ all)) n m = omega (arith, d.unsaid n m few, owed-fewer (marks ++ part_marks) all n m, same) in (
          d.begun_lines,
          d.are,
          left-by d.begun_lines after.history ((marks ++ part_marks) ++ d.last) n m held_is.len image d.come held_is.within (held-less (length h) _ _ held_is.len less held_is.held_kept) held_is.history_of,
        )
    stopped-left part_calls last part_marks owes after said_part n m image part (inr whole) le held_is =
        let reply : Reply = whole.2 in
        let mark : List Mark = Said (length (reply_text reply)) (length after.history) ∷ [] in
        let c : HasCome (lines ++ line ∷ []) after.history ((marks ++ part_marks) ++ mark) = whole-come part_calls part_marks after reply whole.3 in
        let same : marks ++ (part_marks ++ (marks_on after.history last ++ owes)) ≡ (marks ++ part_marks) ++ mark =
        ap (λ (ks : List Call). marks ++ (part_marks ++ (marks_on after.history ks ++ owes))) whole.1
        ∙ ap (λ (ms : List Mark). marks ++ (part_marks ++ ms)) whole.6
        ∙ sym (append_assoc marks part_marks mark) in
        let Of : List Mark → Type 0 = λ ms. held (length h) ms n m ≤ held_is.len in (
          (lines ++ line ∷ []),
          with_it refl,
          left-by (lines ++ line ∷ []) after.history ((marks ++ part_marks) ++ mark) n m held_is.len image c held_is.within (subst Of same held_is.held_kept) held_is.history_of,
        )

    -- what a read gives, with no more calls asked than are its own
    pub stopped-read : (part_calls last : List Call) (part_marks owes : List Mark) (after : State) (said_part : Text) (n most m all_calls : ℕ) (image : List ℕ)
        → IsPart P line before after part_calls part_marks last → IsSaid Loud P line before after part_calls part_marks last said_part owes
        → (said_part ≡ [] → n ≤ most) → most ≤ length (said_of Loud replies) → m ≤ all_calls
        → IsHeld after.history (length h) (marks ++ (part_marks ++ marks_on after.history last)) most all_calls image
        → ((owes ≡ [] → ⊥) → IsHistoryOf after.history image) → LeftOf n m image
    stopped-read part_calls last part_marks owes after said_part n most m all_calls image part (inl unsaid) none_said most_is asked_is held_is whole =
        let d : IsDone part_marks after = done-of line refl part_calls part_marks after last part in
        let all : List Mark = marks_on after.history last in
        let counted : said_by marks ≡ length (said_of Loud replies) = counts lines before calls marks replies machine in
        let le : n ≤ most = none_said unsaid.0 in
        let few : n ≤ said_by (marks ++ part_marks) = omega (arith, le, most_is, counted, said-more marks part_marks) in
        let same : owed ((marks ++ part_marks) ++ all) most all_calls ≡ owed (marks ++ (part_marks ++ all)) most all_calls =
        ap (λ (ms : List Mark). owed ms most all_calls) (append_assoc marks part_marks all) in
        let less : owed ((marks ++ part_marks) ++ d.last) n m ≤ owed (marks ++ (part_marks ++ all)) most all_calls =
        omega (arith, d.unsaid n m few, owed-fewer (marks ++ part_marks) all n m, owed-lower ((marks ++ part_marks) ++ all) n most m all_calls le asked_is, same) in (
          d.begun_lines,
          d.are,
          left-by d.begun_lines after.history ((marks ++ part_marks) ++ d.last) n m held_is.len image d.come held_is.within (held-less (length h) _ _ held_is.len less held_is.held_kept) held_is.history_of,
        )
    stopped-read part_calls last part_marks owes after said_part n most m all_calls image part (inr said) none_said most_is asked_is held_is whole =
        let reply : Reply = said.2 in
        let mark : List Mark = Said (length (reply_text reply)) (length after.history) ∷ [] in
        let c : HasCome (lines ++ line ∷ []) after.history ((marks ++ part_marks) ++ mark) = whole-come part_calls part_marks after reply said.3 in
        let some : owes ≡ [] → ⊥ = λ none. (let z : mark ≡ [] = sym said.6 ∙ none in cc) in
        let all : IsAllOf P text h (lines ++ line ∷ []) n m image = all-of (lines ++ line ∷ []) after.history ((marks ++ part_marks) ++ mark) n m image c (whole some) in
        ((lines ++ line ∷ []), with_it refl, all.by)

  -- ---- an opening

  recovered-marks : (ids : List Text) (t : Trail) → t.marks ≡ [] → (run P t (map (λ (id : Text). Run (Recover id)) ids)).marks ≡ []
  recovered-marks [] t none = none
  recovered-marks (id ∷ ids) t none = recovered-marks ids (next P t (Run (Recover id))) (append-nil t.marks ∙ none)

  -- it asks nothing
  opened-marks : (g : List Entry) (answers : List (Option Outcome)) → (opened P text g answers).marks ≡ []
  opened-marks [] answers = refl
  opened-marks (e ∷ es) answers = recovered-marks (pending_ids (restarted (e ∷ es))) (from_state (restarted (e ∷ es)) answers) refl

  pub opening-left : (after : State) (n m len : ℕ) (image : List ℕ) → (after ≡ restarted h) ⊎ OpensTo P text h after → len ≤ length after.history → length h ≤ len → IsHistoryOf (take len after.history) image
      → IsLeftBy P text h [] n m image
  opening-left after n m len image (inl same) within kept is =
      let call : Invocation = record { text = text; before = h; lines = []; answers = []; said = n; asked = m; left = [] } in
      let grows : Grows P h (opened P text h []).state.history = called-grows P call in
      let last : List Entry = (opened P text h []).state.history in
      let history : after.history ≡ h = ap (λ (st : State). st.history) same in
      let short : len ≤ length h = omega (arith, within, ap (λ (es : List Entry). length es) history) in
      let first : take len after.history ≡ take len last =
      ap (λ (es : List Entry). take len es) history ∙ sym (take-append-le len h grows.entries short) ∙ ap (λ (es : List Entry). take len es) (sym grows.is) in
      let Of : List Entry → Type 0 = λ es. IsHistoryOf es image in
      let c : HasCome [] last [] = record { answers = []; history_is = refl; marks_are = opened-marks h [] } in
      left-by [] last [] n m len image c (omega (arith, short, grows-longer P h last grows)) (max-le kept (omega arith)) (subst Of first is)
  opening-left after n m len image (inr opens) within kept is =
      let x = opens [] in
      let c : HasCome [] after.history [] = record { answers = []; history_is = ap (λ (st : State). st.history) x.state; marks_are = x.marks_are } in
      left-by [] after.history [] n m len image c within (max-le kept (omega arith)) is

-- ---- replies that are said, or aren't

pub held-voice : (voice : Voice) (history : List Entry) (first : ℕ) (marks : List Mark) (n m : ℕ) (image : List ℕ) → IsHeld history first (marks_of voice marks) n m image → IsHeld history first marks (bytes_of voice n) m image
held-voice Loud history first marks n m image is = is
held-voice Quiet history first marks n m image is =
    record { len = is.len; within = is.within; held_kept = held-less first (owed marks 0 m) (owed (asked_marks marks) n m) is.len (owed-quiet marks n m) is.held_kept; history_of = is.history_of }

pub said-voice : (voice : Voice) (P : Language) (line : Line) (old after : State) (calls : List Call) (marks : List Mark) (last : List Call) (part : Text) (owes : List Mark) → IsSaid voice P line old after calls marks last part owes
    → IsSaid Loud P line old after calls marks last part owes
said-voice Loud P line old after calls marks last part owes is = is
said-voice Quiet P line old after calls marks last part owes (inl none) = inl none
said-voice Quiet P line old after calls marks last part owes (inr some) = absurd (let z : Quiet ≡ Loud = some.0 in cc)

-- the bytes of replies are no more than those of all of them and of the part
pub bytes-within : (voice : Voice) (replies : List Reply) (part : Text) (k : ℕ) → k ≤ length (said_of voice replies ++ part) → bytes_of voice k ≤ length (said_of Loud replies ++ part)
bytes-within Loud replies part k le = le
bytes-within Quiet replies part k le = omega arith

-- and where no part was said, than those of the replies
pub bytes-whole : (voice : Voice) (replies : List Reply) (part : Text) (k : ℕ) → k ≤ length (said_of voice replies ++ part) → part ≡ [] → bytes_of voice k ≤ bytes_of voice (length (said_of voice replies))
bytes-whole Loud replies part k le none =
    let all : length (said_of Loud replies ++ part) ≡ length (said_of Loud replies) =
    ap (λ (s : Text). length (said_of Loud replies ++ s)) none ∙ ap (λ (s : Text). length s) (append-nil (said_of Loud replies)) in
    omega (arith, le, all)
bytes-whole Quiet replies part k le none = omega arith

pub bytes-most : (voice : Voice) (replies : List Reply) → bytes_of voice (length (said_of voice replies)) ≤ length (said_of Loud replies)
bytes-most Loud replies = omega arith
bytes-most Quiet replies = omega arith

-- ---- on one disk

pub on-one_store : ((image : List ℕ) (h k : List Entry) → IsHistoryOf h image → IsHistoryOf k image → h ≡ k) → (P : Language) (image : List ℕ) (h : List Entry) (calls : List Invocation) → IsHistoryOf h image → AreOnOneDisk P image calls → AreOnOneStore P h calls
on-one_store one P image h [] is all = tt
on-one_store one P image h (i ∷ is) first all =
    (one image i.before h all.0 first, all.1, on-one_store one P all.2 i.left is all.3 all.4)

pub one-on_store : ((image : List ℕ) (h k : List Entry) → IsHistoryOf h image → IsHistoryOf k image → h ≡ k) → (items : List Item) (i : Invocation) → IsOneOnDisk items i → IsOneOnStore (language_of items) i
one-on_store one items i call = record {
  first = [];
  made = tt;
  calls = call.calls;
  on_store = on-one_store one (language_of items) call.image [] call.calls call.empty call.on_disk;
  limits = call.limits;
  place = call.place;
  is = call.is;
}
