-- The queues of a program at first.
use Rattle.std.proofs.Common.{◌≡◌, ℕ, ◌+◌, ◌<◌, List, [], ◌∷◌, ◌++◌, length, take, get_or, Some, Bool, true, false, refl, sym, ◌∙◌, append_assoc}
use Rattle.std.specs.Prelude.{bytes_eq, if◌then◌else◌}
use Rattle.std.proofs.lemmas.List.{append-nil, take_more}
use Rattle.fn_tree.specs.declared.program.Item.{Item}
use Rattle.fn_tree.specs.declared.program.Item.TheVariants.{Table, Queue, Outside, Helper, Txn, Flow}
use Rattle.sys_queue.specs.Lines.{Text, Line, line_of, queue_lines, new_lines}
use Rattle.sys_queue.specs.Index.{IsIndexOf}

new_lines-append : (is : List Item) (i : Item) → new_lines (is ++ i ∷ []) ≡ new_lines is ++ queue_lines i
new_lines-append [] i = append-nil (queue_lines i)
new_lines-append (j ∷ is) i = rw (new_lines-append is i) (sym (append_assoc (queue_lines j) (new_lines is) (queue_lines i)))

pub added : (program : List Item) (i : ℕ) (item : Item) (old new : List Line) → i < length program → item ≡ get_or program i item → old ≡ new_lines (take i program) → new ≡ old ++ queue_lines item → new ≡ new_lines (take (i + 1) program)
added program i item old new lt is so_far more =
    let e : take (i + 1) program ≡ take i program ++ item ∷ [] = rw is (take_more program i item lt) in
    more ∙ rw (e, so_far) (sym (new_lines-append (take i program) item))

record IsNew (l : Line) : Type 0 where
  running : l.running ≡ 0
  waiting : l.waiting ≡ []

new_line : (name n : Text) (bound : ℕ) (l : Line) (rest : List Line) (b : Bool) → (if b then Some (record { name = n; bound = bound; running = 0; waiting = [] }) else line_of name rest) ≡ Some l → (line_of name rest ≡ Some l → IsNew l) → IsNew l
new_line name n bound l rest true e go =
    let is : record { name = n; bound = bound; running = 0; waiting = [] } ≡ l = cc in
    rw (← is) (record { running = refl; waiting = refl })
new_line name n bound l rest false e go = go e

new_lines-new : (is : List Item) (name : Text) (l : Line) → line_of name (new_lines is) ≡ Some l → IsNew l
new_lines-new [] name l e = absurd cc
new_lines-new (Queue n bound ∷ is) name l e = new_line name n bound l (new_lines is) (bytes_eq n name) e (new_lines-new is name l)
new_lines-new (Table n ∷ is) name l e = new_lines-new is name l e
new_lines-new (Outside n ps ∷ is) name l e = new_lines-new is name l e
new_lines-new (Helper n ps body ∷ is) name l e = new_lines-new is name l e
new_lines-new (Txn s n ps body ∷ is) name l e = new_lines-new is name l e
new_lines-new (Flow n ps body ∷ is) name l e = new_lines-new is name l e

pub new_index : (is : List Item) → IsIndexOf (new_lines is) []
new_index is = record {
  sorted = refl;
  each = λ name l e.
      let new = new_lines-new is name l e in
      record { running = new.running; waiting = λ p. rw new.waiting refl };
}
