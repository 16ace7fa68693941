-- The command that checks a function file.
use Rattle.std.proofs.Common.{◌≡◌, ℕ, ◌≤◌, List, [], ◌++◌, Option, Some, None, sym, ap, ◌∙◌, subst, arith, append-nil}
use Rattle.fn_tree.specs.declared.program.Item.{Item}
use Rattle.r3_desk.specs.Asked as desk
use Rattle.r3_desk.specs.Crash.{Reach, GoesOn, NothingPending}
use Rattle.r3_desk.specs.Disk.{told_len, told_push}
use Rattle.r3_json.specs.Lines as json
use Rattle.r3_model.specs.Language.{Text}
use Rattle.r3_top.specs.Counts.{counts_data}
use Rattle.r3_top.specs.Refusals.{EndsAtFile, IsFile}
use Rattle.r3_top.specs.Answered.{Says, Untouched}
use Rattle.r3_top.specs.Going.{OfCounts, CheckGoes}
use Rattle.r3_top.specs.declared.halt.Halt.{Halt}
use Rattle.r3_top.specs.declared.halt.Halt.TheVariants as halts
use Rattle.r3_top.proofs.Saying.{push-up, says-none}
use Rattle.r3_top.proofs.Leaving.{untouched-first, untouched-more}

module _ {D : Type 0} (image : D → Option Text) (may_leave : D → Text → Type 0) (moment : D → ℕ) (reach : D → Reach) (said : D → Option Text) (asked : D → Option (List desk.Call)) (syncs : D → Option ℕ) where
  uncounted : (d : D) (text : Text) (halt : Halt) → EndsAtFile text (Some halt) → OfCounts image may_leave moment reach said asked syncs d d text (Some halt) []
  uncounted d text halts.Usage e = absurd e
  uncounted d text halts.Memory e = says-none image said asked d
  uncounted d text halts.Disk e = absurd e
  uncounted d text halts.Say e = absurd e
  uncounted d text halts.Files e = (e, says-none image said asked d)
  uncounted d text halts.Script e = absurd e
  uncounted d text (halts.Functions f) e = (e, says-none image said asked d)
  uncounted d text (halts.Store n) e = absurd e
  uncounted d text halts.Program e = absurd e
  uncounted d text halts.LongFile e = (e, says-none image said asked d)
  uncounted d text halts.LongScript e = absurd e

  module _ (d : D)
      (counts_now : (t : ℕ) (c : Text) → t ≤ moment d → may_leave d c → reach d t c (told_len (said d)) (told_len (asked d)))
      (only_now : (c : Text) (n m : ℕ) → reach d (moment d) c n m → may_leave d c × (n ≡ told_len (said d)) × (m ≡ told_len (asked d)))
      (pending : NothingPending (image d) (may_leave d)) (text : Text) where
    -- it goes no further than the function file
    pub check-stopped : (halt : Halt) → EndsAtFile text (Some halt) → CheckGoes image may_leave moment reach said asked syncs d d text (Some halt) []
    check-stopped halt e = (uncounted d text halt e, untouched-first image may_leave moment reach said asked syncs d counts_now only_now pending)

    module _ (now : D) (items : List Item) (file : IsFile text items)
        (stored : image now ≡ image d) (unsynced : syncs now ≡ syncs d) (asks : asked now ≡ asked d) (pends : (c : Text) → may_leave now c → may_leave d c) (time : GoesOn moment reach may_leave said asked d now) where
      said-so : (bytes : Text) → said now ≡ told_push (said d) bytes → Untouched image may_leave moment reach said asked syncs d now
      said-so bytes told =
          untouched-more image may_leave moment reach said asked syncs d d now (untouched-first image may_leave moment reach said asked syncs d counts_now only_now pending) stored unsynced pends time
          (omega arith) (let S : Option Text → Type 0 = λ x. told_len (said d) ≤ told_len x in subst S (sym told) (push-up (said d) bytes))
          (omega arith) (let S : Option (List desk.Call) → Type 0 = λ x. told_len (asked d) ≤ told_len x in subst S (sym asks) (omega arith))

      says : (bytes : Text) → said now ≡ told_push (said d) bytes → Says image said asked d now (bytes ++ [])
      says bytes told = record { told = told ∙ ap (λ (t : Text). told_push (said d) t) (sym (append-nil bytes)); asks = asks; stored = stored }

      pub check-counted : (line : Text) → line ≡ json.line_of (counts_data items) → said now ≡ told_push (said d) line
          → CheckGoes image may_leave moment reach said asked syncs d now text None []
      check-counted line is told =
          let all : said now ≡ told_push (said d) (json.line_of (counts_data items)) = told ∙ ap (λ (t : Text). told_push (said d) t) is in
          ((items, file, says (json.line_of (counts_data items)) all), said-so line told)

      -- the output has failed
      pub check-cut : (part rest : Text) → part ++ rest ≡ json.line_of (counts_data items) → said now ≡ told_push (said d) part
          → CheckGoes image may_leave moment reach said asked syncs d now text (Some halts.Say) []
      check-cut part rest cut told = ((items, file, part, rest, cut, says part told), said-so part told)
