-- What the pieces of a turn are, from what they are made of.
use Rattle.std.proofs.Common.{◌≡◌, ℕ, ◌<◌, Bool, true, false, List, [], Option, Some, None, length, refl, sym, subst, ap, ◌∙◌}
use Rattle.std.specs.Prelude.{map, nat_lt, unwrap_or, IsTrue, if◌then◌else◌}
use Rattle.std.specs.FinMap.Entries.{is_sorted}
use Rattle.std.proofs.lemmas.Bool.{ltb-true}
use Rattle.r3_value.specs.declared.value.Val.{Val}
use Rattle.r3_rows.specs.Keys.{key_cmp}
use Rattle.r3_entry.specs.declared.entry.Entry.{Entry}
use Rattle.fn_tree.specs.declared.flow.Request.{Request}
use Rattle.fn_tree.specs.declared.look.TxnRun.{TxnRun}
use Rattle.fn_tree.specs.declared.program.Item.{Item}
use Rattle.fn_tree.specs.Transaction.{txn_meaning}
use Rattle.fn_tree.specs.Values.{items_of}
use Rattle.fn_tree.specs.Writes.{Versions}
use Rattle.fn_txn.specs.Runs.{Runs, arguments_of}
use Rattle.r3_model.specs.Acts.{put_write}
use Rattle.r3_model.specs.Functions.{run_of, language_of}
use Rattle.r3_model.specs.Given.{Given}
use Rattle.r3_model.specs.Language.{Text, Language}
use Rattle.r3_model.specs.Lawful.{IsLawful}
use Rattle.r3_model.specs.Turns.{child_turn, child_or_id, now}

-- ---- a transaction's run is the language's, so its writes rise

arguments-same : (o : Option (List Val)) → arguments_of o ≡ unwrap_or o []
arguments-same (Some vs) = refl
arguments-same None = refl

txn-is : (items : List Item) (name : Text) (args : Val) (m : Versions) (r : TxnRun) (before after : ℕ)
    → Runs (txn_meaning items m name (arguments_of (items_of args))) r before after → r ≡ (language_of items).txn name args m
txn-is items name args m r before after runs =
    sym (ap (λ (vs : List Val). run_of (txn_meaning items m name vs)) (sym (arguments-same (items_of args))) ∙ ap run_of runs.same)

pub txn-rises : (items : List Item) (name : Text) (args : Val) (m : Versions) (r : TxnRun) (before after : ℕ)
    → IsLawful (language_of items) → Runs (txn_meaning items m name (arguments_of (items_of args))) r before after
    → IsTrue (is_sorted key_cmp (map put_write r.writes))
txn-rises items name args m r before after lawful runs =
    subst (λ (run : TxnRun). IsTrue (is_sorted key_cmp (map put_write run.writes))) (sym (txn-is items name args m r before after runs)) (lawful.looks_true name args m).rising

-- ---- a child's ID that isn't too long

short-by : (b : Bool) (n : ℕ) (x y : Given) → nat_lt 200 n ≡ b → (200 < n → ⊥) → (if b then x else y) ≡ y
short-by true n x y is short = absurd (short (ltb-true 200 n is))
short-by false n x y is short = refl

pub short-child : (P : Language) (h : List Entry) (id : Text) (q : Request) (child : Text) → (200 < length child → ⊥)
    → child_or_id P h id q child ≡ child_turn P h id q child (now P h id child)
short-child P h id q child short = short-by (nat_lt 200 (length child)) (length child) _ _ refl short
