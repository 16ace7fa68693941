-- The opening, with no line answered yet.
use Rattle.std.proofs.Common.{◌≡◌, ℕ, ◌-◌, List, [], length, Option, refl, sym, ap, ◌∙◌, subst, arith}
use Rattle.std.specs.Prelude.{Result, Ok, Err, IfOk}
use Rattle.std.specs.Option.{ForSome}
use Rattle.r3_entry.specs.declared.entry.Entry.{Entry}
use Rattle.r3_entry.specs.Image.{IsHistoryOf}
use Rattle.r3_desk.specs.Asked as desk
use Rattle.r3_desk.specs.Crash.{Reach}
use Rattle.r3_desk.specs.Disk.{told_len, told_push}
use Rattle.r3_model.specs.Language.{Text}
use Rattle.r3_model.specs.Held.{Mark}
use Rattle.r3_exec.specs.declared.exec.Exec.{Exec}
use Rattle.r3_recover.specs.Kept.{IsKept, LeavesKept}
use Rattle.r3_recover.specs.Opened.{HasProgram}
use Rattle.r3_session.specs.Begun.{HasBegun}
use Rattle.r3_serve.specs.Held.{IsHeld, LeavesHeld}
use Rattle.r3_serve.specs.Served.{Voice, Served}
use Rattle.r3_serve.proofs.Voices.{marks-none, said-none}
use Rattle.r3_serve.proofs.Telling.{push-none, told-none}

pub if-ok : {T E : Type 0} (r : Result T E) (A B : T → Type 0) → ((x : T) → A x → B x) → IfOk r A → IfOk r B
if-ok (Ok x) A B f a = f x a
if-ok (Err e) A B f a = tt

-- nothing is owed yet
held-settled : (h : List Entry) (first n m : ℕ) (c : List ℕ) → IsKept h first [] m c → IsHeld h first [] n m c
held-settled h first n m c p = record {
  len = p.len;
  within = p.within;
  held_kept = omega (arith, p.settled_kept);
  history_of = p.history_of;
}

module _ {D : Type 0} (told_size : D → Option ℕ) (told_image : D → Option (List ℕ)) (may_leave : D → List ℕ → Type 0) (moment : D → ℕ) (reach : D → Reach) (said : D → Option (List ℕ)) (asked : D → Option (List desk.Call)) (syncs : D → Option ℕ) where
  leaves-first : (old new : D) (h : List Entry) (first : ℕ) → said new ≡ said old → LeavesKept moment reach said asked old new h first [] → LeavesHeld moment reach said asked old new h first []
  leaves-first old new h first same leaves = record {
    elapses = leaves.elapses;
    each = λ c n m r.
        let x = leaves.each c n m r in
        let still : told_len (said new) ≡ told_len (said old) = ap (λ (o : Option (List ℕ)). told_len o) same in
        (omega (arith, x.0), omega (arith, x.0, still), x.1, x.2, held-settled h first (n - told_len (said old)) (m - told_len (asked old)) c x.3);
  }

  pub begun : (v : Voice) (old new : D) (exec : Exec) (text : Text) → said new ≡ said old → asked new ≡ asked old
      → HasBegun told_size told_image may_leave moment reach said asked syncs old new exec text
      → (h : List Entry) × ForSome (told_image old) (IsHistoryOf h) × HasProgram h text
      × Served told_size told_image may_leave moment reach said asked old new exec v text h []
  begun v old new exec text same same_asked b = (
    b.history,
    b.is_history,
    b.same,
    record {
      calls = [];
      marks = [];
      after = b.after;
      replies = [];
      machine = λ rest.
          let o = b.machine rest in
          record { state = o.state; calls_are = o.calls_are; marks_are = o.marks_are; answers = o.answers; replies_are = refl };
      told = same ∙ push-none (said old) ∙ ap (λ (t : Text). told_push (said old) t) (sym (said-none v));
      asks = same_asked ∙ told-none (asked old);
      runs = b.runs;
      leaves = subst (λ (ms : List Mark). LeavesHeld moment reach said asked old new b.after.history (length b.history) ms) (sym (marks-none v))
          (leaves-first old new b.after.history (length b.history) same b.leaves);
    },
  )
