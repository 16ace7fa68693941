-- What the queues tell is what a dequeue comes to.
use Rattle.std.proofs.Common.{◌≡◌, ℕ, ◌+◌, Bool, true, false, cond, ◌||◌, List, [], ◌∷◌, length, filter_map, Option, Some, None, refl, sym, ap, ◌∙◌, subst}
use Rattle.std.specs.Prelude.{IsTrue, find, nat_le}
use Rattle.std.specs.List.{list_any}
use Rattle.std.specs.Option.{option_map}
use Rattle.std.specs.Str.{bytes_eq}
use Rattle.std.proofs.lemmas.Slice.Eq.{bytes_eq-Decides}
use Rattle.fn_tree.specs.declared.program.Item.{Item}
use Rattle.fn_tree.specs.declared.program.Item.TheVariants as items
use Rattle.r3_entry.specs.declared.entry.Entry.{Entry}
use Rattle.r3_rows.specs.declared.rows.FlowRow.{FlowRow}
use Rattle.sys_queue.specs.Lines.{Line, declared_of, line_of, new_lines}
use Rattle.sys_queue.specs.Rows.{Rows, Tells, is_waiting}
use Rattle.sys_queue.specs.Index.{IsIndexOf}
use Rattle.sys_queue.specs.declared.next.Next as rule
use Rattle.sys_queue.specs.declared.next.Next.TheVariants as tells
use Rattle.r3_model.specs.Acts.{dequeue_entry}
use Rattle.r3_model.specs.Event.{AtLimit, Dequeue, Empty, EntryOf}
use Rattle.r3_model.specs.Functions.{queue_of}
use Rattle.r3_model.specs.Given.{Answers, Enters}
use Rattle.r3_model.specs.Language.{Language, Queue, Text}
use Rattle.r3_model.specs.Machine.{State}
use Rattle.r3_model.specs.Queues.{Next, Ready, NoneWaits, Limited, dequeued, dequeued_from, dequeued_next, next_of, running, waiting}
use Rattle.r3_model.specs.Rows.{Flow, flow_at, flows_at}
use Rattle.r3_model.specs.Valid.{IsValid}
use Rattle.r3_laws.specs.OfQueues.{IsSame, QueuesTell}
use Rattle.r3_laws.proofs.CasesOf.{all-kept}
use Rattle.r3_laws.proofs.Flows.{flows_at-there}
use Rattle.r3_laws.proofs.TellsDequeue.{all-by_start, by_bound, find-passes, first-is}
use Rattle.r3_exec.specs.Entered.{Gives}
use Rattle.r3_exec.specs.Runs.{Stands, language, rows_now}
use Rattle.r3_exec.specs.declared.exec.Exec.{Exec}

abbrev is_named : Text → Queue → Bool
is_named name q = bytes_eq q.name name

abbrev is_called : Text → Text × ℕ → Bool
is_called name d = bytes_eq d.0 name

abbrev of_line : Line → Text × ℕ
of_line l = (l.name, l.bound)

abbrev of_queue : Queue → Text × ℕ
of_queue q = (q.name, q.bound)

-- ---- a declared queue has a line

pull : {X Y : Type 0} (f : X → Y) (b : Bool) (x : X) (o : Option X) (p : Option Y) → option_map f o ≡ p → option_map f (cond b (Some x) o) ≡ cond b (Some (f x)) p
pull f true x o p is = refl
pull f false x o p is = is

line_declared : (name : Text) (ls : List Line) → option_map of_line (line_of name ls) ≡ find (is_called name) (declared_of ls)
line_declared name [] = refl
line_declared name (l ∷ ls) = pull of_line (bytes_eq l.name name) l (line_of name ls) (find (is_called name) (declared_of ls)) (line_declared name ls)

queue_declared : (name : Text) (is : List Item) → option_map of_queue (find (is_named name) (filter_map queue_of is)) ≡ find (is_called name) (declared_of (new_lines is))
queue_declared name [] = refl
queue_declared name (items.Queue n bound ∷ is) =
    pull of_queue (bytes_eq n name) (record { name = n; bound = bound }) (find (is_named name) (filter_map queue_of is)) (find (is_called name) (declared_of (new_lines is))) (queue_declared name is)
queue_declared name (items.Table n ∷ is) = queue_declared name is
queue_declared name (items.Outside n params ∷ is) = queue_declared name is
queue_declared name (items.Helper n params body ∷ is) = queue_declared name is
queue_declared name (items.Txn serial n params body ∷ is) = queue_declared name is
queue_declared name (items.Flow n params body ∷ is) = queue_declared name is

abbrev IsFound : Option Queue → Type 0
IsFound o = (q : Queue) × (o ≡ Some q)

first_found : (x : Queue) (b rest : Bool) (later : Option Queue) → (rest ≡ true → IsFound later) → (b || rest) ≡ true → IsFound (cond b (Some x) later)
first_found x true rest later more any = (x, refl)
first_found x false rest later more any = more any

any_found : (test : Queue → Bool) (qs : List Queue) → list_any test qs ≡ true → IsFound (find test qs)
any_found test [] any = absurd cc
any_found test (q ∷ qs) any = first_found q (test q) (list_any test qs) (find test qs) (any_found test qs) any

line_by : (o : Option Line) (d : Text × ℕ) → option_map of_line o ≡ Some d → (l : Line) × (o ≡ Some l) × (l.bound ≡ d.1)
line_by None d is = absurd cc
line_by (Some l) d is = let same : of_line l ≡ d = cc in (l, refl, ap (λ (x : Text × ℕ). x.1) same)

-- the queue of a name, with its line
abbrev Declared : Exec → Text → Type 0
Declared exec name = (q : Queue) × (l : Line) × (find (is_named name) (language exec).queues ≡ Some q) × (line_of name exec.queues ≡ Some l) × (q.name ≡ name) × (l.bound ≡ q.bound)

pub declared_is : (exec : Exec) (st : State) (name : Text) → Stands exec st → IsTrue (list_any (λ (q : Queue). bytes_eq q.name name) (language exec).queues) → Declared exec name
declared_is exec st name stands any =
    let f = any_found (is_named name) (language exec).queues any in
    let by_name = ap (find (is_called name)) stands.keeps.declared in
    let l = line_by (line_of name exec.queues) (of_queue f.0)
    (line_declared name exec.queues ∙ by_name ∙ sym (queue_declared name exec.program) ∙ ap (λ (o : Option Queue). option_map of_queue o) f.1) in
    (f.0, l.0, f.1, l.1, (bytes_eq-Decides f.0.name name).0 (find-passes (is_named name) (language exec).queues f.0 f.1), l.2)

-- ---- the rule and the machine say the same

limited : (x : Next) (m : ℕ) → IsSame x (tells.Limit m) → x ≡ Limited m
limited (Ready f) m same = absurd same
limited NoneWaits m same = absurd same
limited (Limited n) m same = ap (λ (k : ℕ). Limited k) same

nobody : (x : Next) → IsSame x tells.Empty → x ≡ NoneWaits
nobody (Ready f) same = absurd same
nobody NoneWaits same = refl
nobody (Limited n) same = absurd same

ready : (x : Next) (id : _) → IsSame x (tells.Ready id) → (f : Flow) × (x ≡ Ready f) × (f.id ≡ id.now)
ready (Ready f) id same = (f, refl, same)
ready NoneWaits id same = absurd same
ready (Limited n) id same = absurd same

-- the workflow that is next is there
there : (h : List Entry) (q : Queue) (f : Flow) → next_of q (flows_at h (length h)) ≡ Ready f → flow_at h (length h) f.id ≡ Some f.row
there h q f found =
    let fs = flows_at h (length h) in
    let IsThere : Flow → Type 0 = λ g. flow_at h (length h) g.id ≡ Some g.row in
    let waits : Flow → Bool = λ g. is_waiting q.name g.row in
    let Waits : Flow → Type 0 = λ g. IsThere g × (waits g ≡ true) in
    (first-is Waits (waiting q.name fs) f (all-by_start Waits _ (all-kept IsThere waits fs (flows_at-there h (length h)))) (by_bound q fs f (nat_le q.bound (length (running q.name fs))) found)).0

abbrev IsTold : Exec → Text → rule.Next → Type 0
IsTold exec name n = (rows : Rows) (l : Line) → IsIndexOf exec.queues rows → line_of name exec.queues ≡ Some l → Tells rows name l.bound n

module _ (tell : QueuesTell) (exec : Exec) (st : State) (name : Text) (stands : Stands exec st) (any : IsTrue (list_any (λ (q : Queue). bytes_eq q.name name) (language exec).queues)) where
  abbrev now : List Entry
  now = st.history

  told : (n : rule.Next) → IsTold exec name n
      → (q : Queue) × (dequeued now (language exec) name ≡ dequeued_next now (next_of q (flows_at now (length now)))) × IsSame (next_of q (flows_at now (length now))) n
  told n is_told =
      let d = declared_is exec st name stands any in
      let here = is_told (rows_now now) d.1 stands.keeps.queues d.3 in (
        d.0,
        ap (λ (o : Option Queue). dequeued_from now o) d.2,
        tell now (length now) d.0 n (subst (λ (b : ℕ). Tells (rows_now now) d.0.name b n) d.5 (subst (λ (t : Text). Tells (rows_now now) t d.1.bound n) (sym d.4) here)),
      )

  pub at_limit : (m : ℕ) → IsTold exec name (tells.Limit m) → dequeued now (language exec) name ≡ Answers (AtLimit m)
  at_limit m is_told = let t = told (tells.Limit m) is_told in t.1 ∙ ap (λ (x : Next). dequeued_next now x) (limited _ m t.2)

  pub empty : IsTold exec name tells.Empty → dequeued now (language exec) name ≡ Answers Empty
  empty is_told = let t = told tells.Empty is_told in t.1 ∙ ap (λ (x : Next). dequeued_next now x) (nobody _ t.2)

  pub next_is : (id : _) → IsTold exec name (tells.Ready id)
      → (row : FlowRow) × (flow_at now (length now) id.now ≡ Some row) × (dequeued now (language exec) name ≡ Enters (dequeue_entry now id.now row) (EntryOf (length now + 1) id.now))
  next_is id is_told =
      let t = told (tells.Ready id) is_told in
      let r = ready (next_of t.0 (flows_at now (length now))) id t.2 in
      let is : dequeued now (language exec) name ≡ Enters (dequeue_entry now r.0.id r.0.row) (EntryOf (length now + 1) r.0.id) = t.1 ∙ ap (λ (x : Next). dequeued_next now x) r.1 in (
        r.0.row,
        subst (λ (i : Text). flow_at now (length now) i ≡ Some r.0.row) r.2 (there now t.0 r.0 r.1),
        subst (λ (i : Text). dequeued now (language exec) name ≡ Enters (dequeue_entry now i r.0.row) (EntryOf (length now + 1) i)) r.2 is,
      )

-- the entry that starts it is what the event gives
pub starts : (P : Language) (st : State) (name id copy : Text) (row : FlowRow) (e : Entry) → IsValid P st
    → dequeued st.history P name ≡ Enters (dequeue_entry st.history id row) (EntryOf (length st.history + 1) id) → e ≡ dequeue_entry st.history id row → copy ≡ id
    → Gives P st (Dequeue name) None e (EntryOf (length st.history + 1) copy)
starts P st name id copy row e valid is made same = record {
  fits = valid.begins;
  outcome = tt {0};
  plain = ap (λ (x : Entry). x.snap) made;
  given_is = is ∙ ap (λ (x : Entry). Enters x (EntryOf (length st.history + 1) id)) (sym made) ∙ ap (λ (i : Text). Enters e (EntryOf (length st.history + 1) i)) (sym same);
}
