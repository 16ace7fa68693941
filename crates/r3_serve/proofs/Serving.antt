-- A line was answered, and then its reply is said, or it is not.
use Rattle.std.proofs.Common.{◌≡◌, ℕ, List, [], ◌∷◌, ◌++◌, length, take, Option, refl, sym, ap, ◌∙◌, subst, arith, append-nil, length-append}
use Rattle.std.proofs.lemmas.List.{append_assoc, take_all}
use Rattle.r3_entry.specs.declared.entry.Entry.{Entry}
use Rattle.r3_entry.specs.Image.{IsHistoryOf}
use Rattle.r3_store.specs.declared.store.Store.{Store}
use Rattle.r3_store.specs.Holds.{Holds}
use Rattle.r3_desk.specs.Asked as desk
use Rattle.r3_desk.specs.Crash.{Reach, GoesOn}
use Rattle.r3_desk.specs.Disk.{told_push}
use Rattle.r3_model.specs.Language.{Language, Text}
use Rattle.r3_model.specs.Functions.{language_of}
use Rattle.r3_model.specs.Event.{Reply, Call}
use Rattle.r3_model.specs.Held.{Mark, Said, said_by, asked_by}
use Rattle.r3_model.specs.Laws.{OnlyAppends, DrainsByTurns}
use Rattle.r3_model.specs.Machine.{State}
use Rattle.r3_model.specs.Replies.{reply_text}
use Rattle.r3_model.specs.Script.{Line}
use Rattle.r3_exec.specs.Runs.{Runs, language}
use Rattle.r3_exec.specs.Does.{told_after}
use Rattle.r3_exec.specs.declared.exec.Exec.{Exec}
use Rattle.r3_recover.specs.Kept.{LeavesKept}
use Rattle.r3_session.specs.Answered.{AnswersTo, DoesLine}
use Rattle.r3_serve.specs.Held.{LeavesHeld}
use Rattle.r3_serve.specs.Served.{Voice, Loud, Quiet, said_of, marks_of, Calls, Served}
use Rattle.r3_serve.proofs.Owing.{AreWithin, within-first, said-more, asked-more}
use Rattle.r3_serve.proofs.Voices.{marks-more, marks-asked, marks-within, marks-said, said-then}
use Rattle.r3_serve.proofs.Telling.{push-append, told-append, pushed, asked-after}
use Rattle.r3_serve.proofs.Calling.{Facts, facts, calls-more, answers-grow}
use Rattle.r3_serve.proofs.Leaving.{AreSure, leaves-voice, held-then, held-said}

-- what the machine's call counts is said and asked
pub sure-of : (v : Voice) (h : List Entry) (after : State) (calls : List Call) (marks : List Mark) (replies : List Reply)
    → Facts h after calls marks replies → AreSure after.history (length h) (marks_of v marks) (length (said_of v replies)) (length calls)
sure-of v h after calls marks replies f = record {
  no_less = omega (arith, ap (λ (es : List Entry). length es) f.grown, length-append h f.more);
  within = marks-within v (length after.history) marks f.within;
  said = omega (arith, marks-said v marks replies f.said);
  asked = omega (arith, marks-asked v marks, f.asked);
}

-- and so without the mark of the last reply
sure-first : (v : Voice) (h : List Entry) (before after : State) (calls more : List Call) (marks made mark : List Mark) (replies later : List Reply)
    → asked_by mark ≡ 0 → Facts h before calls marks replies → Facts h after (calls ++ more) (marks ++ (made ++ mark)) later
    → AreSure after.history (length h) (marks_of v (marks ++ made)) (length (said_of v replies)) (length (calls ++ more))
sure-first v h before after calls more marks made mark replies later none f g = record {
  no_less = omega (arith, ap (λ (es : List Entry). length es) g.grown, length-append h g.more);
  within = marks-within v (length after.history) (marks ++ made)
      (within-first (length after.history) (marks ++ made) mark
      (subst (λ (ms : List Mark). AreWithin (length after.history) ms) (sym (append_assoc marks made mark)) g.within));
  said = omega (arith, marks-said v marks replies f.said, ap (λ (ms : List Mark). said_by ms) (marks-more v marks made), said-more (marks_of v marks) (marks_of v made));
  asked = omega (arith, marks-asked v (marks ++ made), asked-more marks made, asked-more marks (made ++ mark), asked-more made mark, none, g.asked);
}

module _ {D : Type 0} (told_size : D → Option ℕ) (told_image : D → Option (List ℕ)) (may_leave : D → List ℕ → Type 0) (moment : D → ℕ) (reach : D → Reach) (said : D → Option (List ℕ)) (asked : D → Option (List desk.Call)) (syncs : D → Option ℕ) where
  abbrev pub IsServed : D → D → Exec → Voice → Text → List Entry → List Line → Type 0
  IsServed from now exec v text h lines = Served told_size told_image may_leave moment reach said asked from now exec v text h lines

  abbrev pub Answers : D → D → Exec → State → Line → Text → Type 0
  Answers old new exec st line text = DoesLine told_size told_image may_leave moment reach said asked syncs old new exec st line text

  -- the line was answered, and its reply isn't said
  pub record Went (from now : D) (exec : Exec) (v : Voice) (text : Text) (h : List Entry) (lines : List Line) (line : Line) (out : Text) : Type 0 where
    pub calls : List Call
    pub marks : List Mark
    pub before : State
    pub replies : List Reply
    pub machine : Calls (language exec) text h lines before calls marks replies
    pub more : List Call
    pub made : List Mark
    pub after : State
    pub reply : Reply
    pub goes : AnswersTo (language exec) line before after more made reply
    pub out_is : out ≡ reply_text reply
    pub told : said now ≡ told_push (said from) (said_of v replies)
    pub asks : asked now ≡ told_after (asked from) (calls ++ more)
    pub runs : Runs told_size told_image may_leave now exec after (length after.history)
    pub sure : AreSure after.history (length h) (marks_of v (marks ++ made)) (length (said_of v replies)) (length (calls ++ more))
    pub leaves : LeavesHeld moment reach said asked from now after.history (length h) (marks_of v (marks ++ made))

  -- what a crash leaves of a line in which nothing is said
  pub leaves-line : OnlyAppends → DrainsByTurns → (from mid new : D) (exec : Exec) (v : Voice) (text : Text) (h : List Entry) (lines : List Line)
      → (s : IsServed from mid exec v text h lines) (after : State) (xs : List Entry) (more : List Call) (made : List Mark)
      → after.history ≡ s.after.history ++ xs → said new ≡ said mid → asked new ≡ told_after (asked mid) more
      → LeavesKept moment reach said asked mid new after.history (length s.after.history) made
      → LeavesHeld moment reach said asked from new after.history (length h) (marks_of v (s.marks ++ made))
  leaves-line appends drains from mid new exec v text h lines s after xs more made grown same told leaves =
      let f : Facts h s.after s.calls s.marks s.replies = facts appends drains (language exec) text h lines s.after s.calls s.marks s.replies s.machine in
      let kept : LeavesKept moment reach said asked mid new (s.after.history ++ xs) (length s.after.history) (marks_of v made) =
      subst (λ (es : List Entry). LeavesKept moment reach said asked mid new es (length s.after.history) (marks_of v made)) grown
      (leaves-voice may_leave moment reach said asked v mid new after.history (length s.after.history) made leaves) in
      let held : LeavesHeld moment reach said asked from new (s.after.history ++ xs) (length h) (marks_of v s.marks ++ marks_of v made) =
      held-then may_leave moment reach said asked from mid new s.after.history xs (length h) (length (said_of v s.replies)) (length s.calls) (length more) (marks_of v s.marks) (marks_of v made)
      (sure-of v h s.after s.calls s.marks s.replies f) (pushed (said from) (said mid) (said_of v s.replies) s.told) (asked-after (asked from) (asked mid) s.calls s.asks)
      same (asked-after (asked mid) (asked new) more told) s.leaves kept in
      subst (λ (es : List Entry). LeavesHeld moment reach said asked from new es (length h) (marks_of v (s.marks ++ made))) (sym grown)
      (subst (λ (ms : List Mark). LeavesHeld moment reach said asked from new (s.after.history ++ xs) (length h) ms) (sym (marks-more v s.marks made)) held)

  pub went : OnlyAppends → DrainsByTurns → (from mid new : D) (exec exec' : Exec) (v : Voice) (text : Text) (h : List Entry) (lines : List Line) (line : Line) (out : Text)
      → exec'.program ≡ exec.program → said new ≡ said mid
      → (s : IsServed from mid exec v text h lines) → Answers mid new exec' s.after line out → Went from new exec' v text h lines line out
  went appends drains from mid new exec exec' v text h lines line out program same s d =
      let P : Language = language exec' in
      let here : language exec ≡ P = ap (λ is. language_of is) (sym program) in
      let machine : Calls P text h lines s.after s.calls s.marks s.replies = subst (λ (L : Language). Calls L text h lines s.after s.calls s.marks s.replies) here s.machine in
      let mark : List Mark = Said (length (reply_text d.reply)) (length d.after.history) ∷ [] in
      let f : Facts h s.after s.calls s.marks s.replies = facts appends drains P text h lines s.after s.calls s.marks s.replies machine in
      let g : Facts h d.after (s.calls ++ d.calls) (s.marks ++ (d.marks ++ mark)) (s.replies ++ d.reply ∷ []) =
      facts appends drains P text h (lines ++ line ∷ []) d.after (s.calls ++ d.calls) (s.marks ++ (d.marks ++ mark)) (s.replies ++ d.reply ∷ [])
      (calls-more P text h lines line s.after d.after s.calls d.calls s.marks d.marks s.replies d.reply machine d.machine) in
      let grows = answers-grow appends drains P s.after d.after d.calls d.marks line d.reply d.machine in
      record {
        calls = s.calls;
        marks = s.marks;
        before = s.after;
        replies = s.replies;
        machine = machine;
        more = d.calls;
        made = d.marks;
        after = d.after;
        reply = d.reply;
        goes = d.machine;
        out_is = d.text_is;
        told = same ∙ s.told;
        asks = d.told ∙ ap (λ (o : Option (List desk.Call)). told_after o d.calls) s.asks ∙ told-append (asked from) s.calls d.calls;
        runs = d.runs;
        sure = sure-first v h s.after d.after s.calls d.calls s.marks d.marks mark s.replies (s.replies ++ d.reply ∷ []) refl f g;
        leaves = leaves-line appends drains from mid new exec v text h lines s d.after grows.0 d.calls d.marks grows.1 same d.told d.leaves;
      }

  -- nothing is said
  pub served-quiet : (from now : D) (exec : Exec) (text : Text) (h : List Entry) (lines : List Line) (line : Line) (out : Text)
      → Went from now exec Quiet text h lines line out → IsServed from now exec Quiet text h (lines ++ line ∷ [])
  served-quiet from now exec text h lines line out w =
      let mark : List Mark = Said (length (reply_text w.reply)) (length w.after.history) ∷ [] in
      let same : marks_of Quiet (w.marks ++ w.made) ≡ marks_of Quiet (w.marks ++ (w.made ++ mark)) =
      sym (ap (λ (ms : List Mark). marks_of Quiet ms) (sym (append_assoc w.marks w.made mark)) ∙ marks-more Quiet (w.marks ++ w.made) mark ∙ append-nil (marks_of Quiet (w.marks ++ w.made))) in
      record {
        calls = w.calls ++ w.more;
        marks = w.marks ++ (w.made ++ mark);
        after = w.after;
        replies = w.replies ++ w.reply ∷ [];
        machine = calls-more (language exec) text h lines line w.before w.after w.calls w.more w.marks w.made w.replies w.reply w.machine w.goes;
        told = w.told;
        asks = w.asks;
        runs = w.runs;
        leaves = subst (λ (ms : List Mark). LeavesHeld moment reach said asked from now w.after.history (length h) ms) same w.leaves;
      }

  -- ---- the reply is said

  -- a crash leaves what is settled
  abbrev pub CrashLaw : Type 0
  CrashLaw = (d : D) (store : Store) (h : List Entry) (k : ℕ) (image : List ℕ) → Holds told_size told_image may_leave d store h k → may_leave d image → IsHistoryOf (take k h) image

  abbrev pub BesideLaw : Type 0
  BesideLaw = (old new : D) (store : Store) (h : List Entry) (k : ℕ) → told_size new ≡ told_size old → told_image new ≡ told_image old
      → ((image : List ℕ) → may_leave new image → may_leave old image)
      → Holds told_size told_image may_leave old store h k → Holds told_size told_image may_leave new store h k

  pub whole-left : CrashLaw → (d : D) (exec : Exec) (st : State) → Runs told_size told_image may_leave d exec st (length st.history)
      → (c : List ℕ) → may_leave d c → IsHistoryOf st.history c
  whole-left law d exec st runs c left =
      subst (λ (es : List Entry). IsHistoryOf es c) (take_all (length st.history) st.history (omega arith)) (law d exec.store st.history (length st.history) c runs.holds left)

  pub leaves-said : CrashLaw → (from mid new : D) (exec : Exec) (text : Text) (h : List Entry) (lines : List Line) (line : Line) (out part : Text)
      → (w : Went from mid exec Loud text h lines line out)
      → said new ≡ told_push (said mid) part → asked new ≡ asked mid → ((c : List ℕ) → may_leave new c → may_leave mid c)
      → GoesOn moment reach may_leave said asked mid new
      → LeavesHeld moment reach said asked from new w.after.history (length h) (w.marks ++ (w.made ++ Said (length (reply_text w.reply)) (length w.after.history) ∷ []))
  leaves-said law from mid new exec text h lines line out part w says same pending goes =
      let mark : List Mark = Said (length (reply_text w.reply)) (length w.after.history) ∷ [] in
      subst (λ (ms : List Mark). LeavesHeld moment reach said asked from new w.after.history (length h) ms) (append_assoc w.marks w.made mark)
      (held-said may_leave moment reach said asked from mid new w.after.history (length h) (length (said_of Loud w.replies)) (length (w.calls ++ w.more)) (length part) (length (reply_text w.reply)) (w.marks ++ w.made)
      w.sure (pushed (said from) (said mid) (said_of Loud w.replies) w.told) (asked-after (asked from) (asked mid) (w.calls ++ w.more) w.asks)
      (pushed (said mid) (said new) part says) same (whole-left law mid exec w.after w.runs) pending goes w.leaves)

  pub served-loud : CrashLaw → BesideLaw → (from mid new : D) (exec : Exec) (text : Text) (h : List Entry) (lines : List Line) (line : Line) (out : Text)
      → said new ≡ told_push (said mid) out → asked new ≡ asked mid → told_size new ≡ told_size mid → told_image new ≡ told_image mid
      → ((c : List ℕ) → may_leave new c → may_leave mid c) → GoesOn moment reach may_leave said asked mid new
      → Went from mid exec Loud text h lines line out → IsServed from new exec Loud text h (lines ++ line ∷ [])
  served-loud crash beside from mid new exec text h lines line out says same size image pending goes w = record {
    calls = w.calls ++ w.more;
    marks = w.marks ++ (w.made ++ Said (length (reply_text w.reply)) (length w.after.history) ∷ []);
    after = w.after;
    replies = w.replies ++ w.reply ∷ [];
    machine = calls-more (language exec) text h lines line w.before w.after w.calls w.more w.marks w.made w.replies w.reply w.machine w.goes;
    told = says ∙ ap (λ (o : Option Text). told_push o out) w.told ∙ push-append (said from) (said_of Loud w.replies) out
        ∙ ap (λ (t : Text). told_push (said from) (said_of Loud w.replies ++ t)) w.out_is
        ∙ ap (λ (t : Text). told_push (said from) t) (sym (said-then w.replies w.reply));
    asks = same ∙ w.asks;
    runs = record { stands = w.runs.stands; holds = beside mid new exec.store w.after.history (length w.after.history) size image pending w.runs.holds };
    leaves = leaves-said crash from mid new exec text h lines line out out w says same pending goes;
  }
