-- An entry of a dequeue tells its event, and the workflow that a queue starts is one of that queue.
use Rattle.std.proofs.Common.{◌≡◌, Bool, true, false, cond, ◌&&◌, List, [], ◌∷◌, length, Option, Some, None, refl, sym, subst, ap, ◌∙◌, arith}
use Rattle.std.specs.Prelude.{if◌then◌else◌, find, filter, bytes_eq, nat_le}
use Rattle.std.specs.List.{AllByRecursion}
use Rattle.std.proofs.lemmas.Slice.Eq.{bytes_eq-Decides}
use Rattle.r3_rows.specs.declared.rows.Key.TheVariants as keys
use Rattle.r3_entry.specs.declared.entry.Entry.{Entry}
use Rattle.r3_model.specs.Language.{Text, Language, Queue}
use Rattle.r3_model.specs.Event.{Dequeue, Reply}
use Rattle.r3_model.specs.Given.{Enters}
use Rattle.r3_model.specs.Rows.{Flow, flows_at, placed, by_start}
use Rattle.sys_queue.specs.Rows.{is_enqueued, is_in, is_waiting}
use Rattle.r3_model.specs.Acts.{dequeue_entry}
use Rattle.r3_model.specs.Queues.{running, waiting, Next, Ready, NoneWaits, Limited, first_of, next_of, dequeued_next, dequeued_from, dequeued}
use Rattle.r3_model.specs.Schedule.{event_of}
use Rattle.r3_laws.proofs.Tells.{tie-refl, same_entry, no_entry}

-- ---- what passes a test

keeps : {X : Type 0} (test : X → Bool) (x : X) (xs : List X) (b : Bool) → test x ≡ b → AllByRecursion (λ y. test y ≡ true) xs → AllByRecursion (λ y. test y ≡ true) (cond b (x ∷ xs) xs)
keeps test x xs true is all = (is, all)
keeps test x xs false is all = all

pub all-filter : {X : Type 0} (test : X → Bool) (xs : List X) → AllByRecursion (λ y. test y ≡ true) (filter test xs)
all-filter test [] = tt
all-filter test (x ∷ xs) = keeps test x (filter test xs) (test x) refl (all-filter test xs)

found : {X : Type 0} (test : X → Bool) (x y : X) (later : Option X) (b : Bool) → test x ≡ b → (later ≡ Some y → test y ≡ true) → cond b (Some x) later ≡ Some y → test y ≡ true
found test x y later true is rest e = let same : x ≡ y = cc in sym (ap test same) ∙ is
found test x y later false is rest e = rest e

pub find-passes : {X : Type 0} (test : X → Bool) (xs : List X) (y : X) → find test xs ≡ Some y → test y ≡ true
find-passes test [] y e = absurd cc
find-passes test (x ∷ xs) y e = found test x y (find test xs) (test x) refl (find-passes test xs y) e

module _ (A : Flow → Type 0) where
  by_order : (b : Bool) (f g : Flow) (gs more : List Flow) → A f → A g → AllByRecursion A gs → AllByRecursion A more → AllByRecursion A (if b then f ∷ g ∷ gs else g ∷ more)
  by_order true f g gs more af ag all later = (af, (ag, all))
  by_order false f g gs more af ag all later = (ag, later)

  all-placed : (f : Flow) (gs : List Flow) → A f → AllByRecursion A gs → AllByRecursion A (placed f gs)
  all-placed f [] a all = (a, tt)
  all-placed f (g ∷ gs) a all = by_order (nat_le f.row.started g.row.started) f g gs (placed f gs) a all.0 all.1 (all-placed f gs a all.1)

  pub all-by_start : (fs : List Flow) → AllByRecursion A fs → AllByRecursion A (by_start fs)
  all-by_start [] all = tt
  all-by_start (f ∷ fs) all = all-placed f (by_start fs) all.0 (all-by_start fs all.1)

  pub first-is : (fs : List Flow) (f : Flow) → AllByRecursion A fs → first_of fs ≡ Ready f → A f
  first-is [] f all e = absurd cc
  first-is (g ∷ gs) f all e = let same : g ≡ f = cc in let Of : Flow → Type 0 = A in subst Of same all.0

-- ---- the queue of the one that is next

pub both : (a b : Bool) → (a && b) ≡ true → (a ≡ true) × (b ≡ true)
both true b e = (refl, e)
both false b e = absurd cc

in-queue : (queue : Text) (o : Option Text) → is_in queue o ≡ true → o ≡ Some queue
in-queue queue None e = absurd cc
in-queue queue (Some q) e = ap (λ (x : Text). Some x) (sym ((bytes_eq-Decides queue q).0 e))

pub by_bound : (q : Queue) (fs : List Flow) (f : Flow) (b : Bool) → (if b then Limited (length (running q.name fs)) else first_of (waiting q.name fs)) ≡ Ready f → first_of (waiting q.name fs) ≡ Ready f
by_bound q fs f true e = absurd cc
by_bound q fs f false e = e

pub ready-in : (q : Queue) (fs : List Flow) (f : Flow) → next_of q fs ≡ Ready f → f.row.queue ≡ Some q.name
ready-in q fs f e =
    let Passes : Flow → Type 0 = λ g. is_waiting q.name g.row ≡ true in
    let passes = first-is Passes (waiting q.name fs) f (all-by_start Passes _ (all-filter (λ (g : Flow). is_waiting q.name g.row) fs)) (by_bound q fs f (nat_le q.bound (length (running q.name fs))) e) in
    in-queue q.name f.row.queue (both (is_in q.name f.row.queue) (is_enqueued f.row.status) passes).0

-- ---- its entry

dequeue-event : (h : List Entry) (f : Flow) (queue : Text) → f.row.queue ≡ Some queue → event_of (dequeue_entry h f.id f.row) ≡ Dequeue queue
dequeue-event h f queue is = grind (arith, tie-refl (keys.Flow f.id), is)

next-event : (h : List Entry) (q : Queue) (n : Next) (e : Entry) (r : Reply) → next_of q (flows_at h (length h)) ≡ n → dequeued_next h n ≡ Enters e r → event_of e ≡ Dequeue q.name
next-event h q (Ready f) e r is given = ap event_of (sym (same_entry _ e _ r given)) ∙ dequeue-event h f q.name (ready-in q (flows_at h (length h)) f is)
next-event h q NoneWaits e r is given = no_entry _ r e given
next-event h q (Limited k) e r is given = no_entry _ r e given

from-event : (h : List Entry) (name : Text) (qs : List Queue) (o : Option Queue) (e : Entry) (r : Reply) → find (λ (q : Queue). bytes_eq q.name name) qs ≡ o → dequeued_from h o ≡ Enters e r → event_of e ≡ Dequeue name
from-event h name qs None e r is given = no_entry _ r e given
from-event h name qs (Some q) e r is given =
    let same : q.name ≡ name = (bytes_eq-Decides q.name name).0 (find-passes (λ (q : Queue). bytes_eq q.name name) qs q is) in
    next-event h q (next_of q (flows_at h (length h))) e r refl given ∙ ap (λ (n : Text). Dequeue n) same

pub dequeued-event : (P : Language) (h : List Entry) (name : Text) (e : Entry) (r : Reply) → dequeued h P name ≡ Enters e r → event_of e ≡ Dequeue name
dequeued-event P h name e r given = from-event h name P.queues (find (λ (q : Queue). bytes_eq q.name name) P.queues) e r refl given
