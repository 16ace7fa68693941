-- A line whose answer ended early, or whose reply wasn't said whole.
use Rattle.std.proofs.Common.{◌≡◌, inl, inr, ℕ, List, [], ◌∷◌, ◌++◌, length, take, drop, Option, Some, refl, sym, ap, ◌∙◌, subst, arith, append-nil, length-append, take-append-drop}
use Rattle.std.proofs.lemmas.List.{take_all}
use Rattle.r3_entry.specs.declared.entry.Entry.{Entry}
use Rattle.r3_entry.specs.Image.{IsHistoryOf}
use Rattle.r3_store.specs.declared.store.Store.{Store}
use Rattle.r3_store.specs.Holds.{Holds}
use Rattle.r3_desk.specs.Asked as desk
use Rattle.r3_desk.specs.Crash.{Reach, GoesOn}
use Rattle.r3_desk.specs.Disk.{told_push}
use Rattle.r3_model.specs.Language.{Language, Text}
use Rattle.r3_model.specs.Event.{Call}
use Rattle.r3_model.specs.Held.{Mark, Said}
use Rattle.r3_model.specs.Laws.{OnlyAppends, DrainsByTurns}
use Rattle.r3_model.specs.Replies.{reply_text}
use Rattle.r3_model.specs.Script.{Line}
use Rattle.r3_exec.specs.Runs.{language}
use Rattle.r3_exec.specs.Does.{told_after}
use Rattle.r3_exec.specs.declared.exec.Exec.{Exec}
use Rattle.r3_recover.specs.Kept.{marks_on}
use Rattle.r3_session.specs.Answered.{StopsLine}
use Rattle.r3_serve.specs.Held.{IsHeld, LeavesHeld}
use Rattle.r3_serve.specs.Served.{Voice, Loud, said_of, marks_of, Served, Stopped}
use Rattle.r3_serve.specs.Failed.{ReplyFailed}
use Rattle.r3_serve.proofs.Owing.{AreWithin}
use Rattle.r3_serve.proofs.Voices.{marks-more, marks-asked}
use Rattle.r3_serve.proofs.Telling.{push-append, told-append}
use Rattle.r3_serve.proofs.Calling.{Facts, facts, calls-more, part-grows, part-whole}
use Rattle.r3_serve.proofs.Leaving.{AreSure, held-kept, held-all, kept-voice}
use Rattle.r3_serve.proofs.Serving.{Went, CrashLaw, sure-of, leaves-line, whole-left, leaves-said}

module _ {D : Type 0} (told_size : D → Option ℕ) (told_image : D → Option (List ℕ)) (may_leave : D → List ℕ → Type 0) (moment : D → ℕ) (reach : D → Reach) (said : D → Option (List ℕ)) (asked : D → Option (List desk.Call)) (syncs : D → Option ℕ) where
  abbrev ServedAt : D → D → Exec → Voice → Text → List Entry → List Line → Type 0
  ServedAt from now exec v text h lines = Served told_size told_image may_leave moment reach said asked from now exec v text h lines

  abbrev StoppedAt : D → D → Language → Voice → Text → List Entry → List Line → Line → Type 0
  StoppedAt from now P v text h lines line = Stopped told_image moment reach said asked from now P v text h lines line

  abbrev WentAt : D → D → Exec → Voice → Text → List Entry → List Line → Line → Text → Type 0
  WentAt from now exec v text h lines line out = Went told_size told_image may_leave moment reach said asked syncs from now exec v text h lines line out

  -- ---- the answer ended early

  pub stopped : OnlyAppends → DrainsByTurns → (from mid new : D) (exec : Exec) (v : Voice) (text : Text) (h : List Entry) (lines : List Line) (line : Line)
      → said new ≡ said mid → (s : ServedAt from mid exec v text h lines)
      → StopsLine told_image moment reach said asked syncs (language exec) mid new s.after line → StoppedAt from new (language exec) v text h lines line
  stopped appends drains from mid new exec v text h lines line same s t =
      let P : Language = language exec in
      let f : Facts h s.after s.calls s.marks s.replies = facts appends drains P text h lines s.after s.calls s.marks s.replies s.machine in
      let sure : AreSure s.after.history (length h) (marks_of v s.marks) (length (said_of v s.replies)) (length s.calls) = sure-of v h s.after s.calls s.marks s.replies f in
      let grows = part-grows appends drains P s.after t.after t.calls t.marks line t.last t.part in
      let more : List Mark = marks_on t.after.history t.last in
      let none : more ≡ more ++ [] = sym (append-nil more) in
      record {
        calls = s.calls;
        marks = s.marks;
        before = s.after;
        replies = s.replies;
        machine = s.machine;
        part_calls = t.calls;
        part_marks = t.marks;
        after = t.after;
        last = t.last;
        part = t.part;
        said_part = [];
        owes = [];
        said_is = inl (refl, refl);
        told = same ∙ s.told ∙ ap (λ (x : Text). told_push (said from) x) (sym (append-nil (said_of v s.replies)));
        asks = t.told ∙ ap (λ (o : Option (List desk.Call)). told_after o (t.calls ++ t.last)) s.asks ∙ told-append (asked from) s.calls (t.calls ++ t.last);
        leaves = subst (λ (ms : List Mark). LeavesHeld moment reach said asked from new t.after.history (length h) (marks_of v (s.marks ++ (t.marks ++ ms)))) none
            (leaves-line told_size told_image may_leave moment reach said asked syncs appends drains from mid new exec v text h lines s t.after grows.0 (t.calls ++ t.last) (t.marks ++ more) grows.1 same t.told t.leaves);
        reads = λ image told.
            subst (λ (ms : List Mark). IsHeld t.after.history (length h) ms (length (said_of v s.replies)) (length (s.calls ++ (t.calls ++ t.last))) image) (sym (marks-more v s.marks (t.marks ++ more)))
            (held-kept s.after.history t.after.history (length h) (marks_of v s.marks) (marks_of v (t.marks ++ more)) (length (said_of v s.replies)) (length (s.calls ++ (t.calls ++ t.last))) (length (t.calls ++ t.last)) image
            sure.no_less sure.within sure.said (omega (arith, length-append s.calls (t.calls ++ t.last), marks-asked v s.marks, f.asked))
            (kept-voice v t.after.history (length s.after.history) (t.marks ++ more) (length (t.calls ++ t.last)) image (t.reads image told)));
        whole = λ some. absurd (some refl);
      }

  -- ---- the reply was said in part

  abbrev pub ReadLaw : Type 0
  ReadLaw = (d : D) (store : Store) (h : List Entry) (k : ℕ) (image : List ℕ) → Holds told_size told_image may_leave d store h k → told_image d ≡ Some image → IsHistoryOf (take k h) image

  pub unsaid : CrashLaw told_size told_image may_leave moment reach said asked syncs → ReadLaw
      → (from mid new : D) (exec : Exec) (P : Language) (text : Text) (h : List Entry) (lines : List Line) (line : Line) (out : Text) (k : ℕ)
      → language exec ≡ P
      → said new ≡ told_push (said mid) (take k out) → asked new ≡ asked mid → told_image new ≡ told_image mid
      → ((c : List ℕ) → may_leave new c → may_leave mid c) → GoesOn moment reach may_leave said asked mid new
      → WentAt from mid exec Loud text h lines line out → StoppedAt from new P Loud text h lines line
  unsaid crash reads from mid new exec P text h lines line out k is says same image pending goes w =
      let mark : List Mark = Said (length (reply_text w.reply)) (length w.after.history) ∷ [] in
      let all : (c : List ℕ) → told_image new ≡ Some c → IsHistoryOf w.after.history c = λ c told.
      subst (λ (es : List Entry). IsHistoryOf es c) (take_all (length w.after.history) w.after.history (omega arith))
      (reads mid exec.store w.after.history (length w.after.history) c w.runs.holds (sym image ∙ told)) in
      let none : w.more ≡ w.more ++ [] = sym (append-nil w.more) in
      subst (λ (L : Language). StoppedAt from new L Loud text h lines line) is
      (record {
        calls = w.calls;
        marks = w.marks;
        before = w.before;
        replies = w.replies;
        machine = w.machine;
        part_calls = w.more;
        part_marks = w.made;
        after = w.after;
        last = [];
        part = part-whole (language exec) line w.before w.after w.more w.made w.reply w.goes;
        said_part = take k out;
        owes = mark;
        said_is = inr (refl, refl, w.reply, w.goes, drop k out, take-append-drop k out ∙ w.out_is, refl);
        told = says ∙ ap (λ (o : Option Text). told_push o (take k out)) w.told ∙ push-append (said from) (said_of Loud w.replies) (take k out);
        asks = same ∙ w.asks ∙ ap (λ (cs : List Call). told_after (asked from) (w.calls ++ cs)) none;
        leaves = leaves-said told_size told_image may_leave moment reach said asked syncs crash from mid new exec text h lines line out (take k out) w says same pending goes;
        reads = λ c told. held-all w.after.history (length h) (w.marks ++ (w.made ++ [])) (length (said_of Loud w.replies)) (length (w.calls ++ (w.more ++ []))) c w.sure.no_less
            (subst (λ (ms : List Mark). AreWithin (length w.after.history) (w.marks ++ ms)) (sym (append-nil w.made)) w.sure.within) (all c told);
        whole = λ some. all;
      })

  -- of its reply this much was said, where its saying failed
  pub reply-failed : CrashLaw told_size told_image may_leave moment reach said asked syncs → ReadLaw
      → (from mid new : D) (exec : Exec) (P : Language) (text : Text) (h : List Entry) (lines : List Line) (line : Line) (out : Text) (k : ℕ)
      → language exec ≡ P
      → said new ≡ told_push (said mid) (take k out) → asked new ≡ asked mid → told_image new ≡ told_image mid
      → ((c : List ℕ) → may_leave new c → may_leave mid c) → GoesOn moment reach may_leave said asked mid new
      → WentAt from mid exec Loud text h lines line out → ReplyFailed told_image may_leave moment reach said asked from new P text h lines line
  reply-failed crash reads from mid new exec P text h lines line out k is says same image pending goes w =
      let mark : List Mark = Said (length (reply_text w.reply)) (length w.after.history) ∷ [] in
      subst (λ (L : Language). ReplyFailed told_image may_leave moment reach said asked from new L text h lines line) is
      (record {
        calls = w.calls ++ w.more;
        marks = w.marks ++ (w.made ++ mark);
        after = w.after;
        replies = w.replies;
        reply = w.reply;
        machine = calls-more (language exec) text h lines line w.before w.after w.calls w.more w.marks w.made w.replies w.reply w.machine w.goes;
        part = take k out;
        rest = drop k out;
        of_reply = take-append-drop k out ∙ w.out_is;
        told = says ∙ ap (λ (o : Option Text). told_push o (take k out)) w.told ∙ push-append (said from) (said_of Loud w.replies) (take k out);
        asks = same ∙ w.asks;
        stored = λ c told.
            subst (λ (es : List Entry). IsHistoryOf es c) (take_all (length w.after.history) w.after.history (omega arith))
            (reads mid exec.store w.after.history (length w.after.history) c w.runs.holds (sym image ∙ told));
        settled = λ c left. whole-left told_size told_image may_leave moment reach said asked syncs crash mid exec w.after w.runs c (pending c left);
        leaves = leaves-said told_size told_image may_leave moment reach said asked syncs crash from mid new exec text h lines line out (take k out) w says same pending goes;
      })
