-- A body whose asks are answered from a list does what the body does on that list.
use Rattle.std.proofs.Common.{◌≡◌, subst, ℕ, zero, suc, Bool, true, false, List, [], ◌∷◌, drop, length, Option, Some, None, refl, ap, sym, ◌∙◌}
use Rattle.std.specs.Prelude.{map, codes, if◌then◌else◌, nat_lt, slice_get}
use Rattle.std.specs.Str.{bytes_eq}
use Rattle.r3_value.specs.declared.value.Val.{Val}
use Rattle.r3_value.specs.declared.value.Val.TheVariants.{Text}
use Rattle.r3_value.specs.declared.value.Outcome.{Outcome}
use Rattle.r3_value.specs.declared.value.Outcome.TheVariants.{Value, Failure}
use Rattle.fn_tree.specs.declared.expr.Expr.{Expr}
use Rattle.fn_tree.specs.declared.flow.Answer.{Answer}
use Rattle.fn_tree.specs.declared.flow.AskKind.{AskKind}
use Rattle.fn_tree.specs.declared.flow.AskKind.TheVariants as kind
use Rattle.fn_tree.specs.declared.flow.FlowEnd.{FlowEnd}
use Rattle.fn_tree.specs.declared.flow.FlowEnd.TheVariants as flow
use Rattle.fn_tree.specs.declared.flow.Request.{Request}
use Rattle.fn_tree.specs.declared.program.Item.{Item}
use Rattle.fn_tree.specs.declared.stmt.Ask.{Ask}
use Rattle.fn_tree.specs.declared.stmt.Ask.TheVariants as ask
use Rattle.fn_tree.specs.declared.stmt.Rhs.{Rhs}
use Rattle.fn_tree.specs.declared.stmt.Rhs.TheVariants as rhs
use Rattle.fn_tree.specs.declared.stmt.Stmt.{Stmt, roll-Stmt}
use Rattle.fn_tree.specs.declared.stmt.Stmt.TheOpen.{Stmt-F}
use Rattle.fn_tree.specs.declared.stmt.Stmt.TheFolds.{map-Stmt}
use Rattle.fn_tree.specs.Declarations.{called, spawned}
use Rattle.fn_tree.specs.Evaluation.{End, Gives, Fails, Stuck as NoEnd, Calls, values_onto}
use Rattle.fn_tree.specs.Expression.{evaluated}
use Rattle.fn_tree.specs.Values.{bool_of, text_of, items_of}
use Rattle.fn_tree.specs.Sequences.{list_or_size}
use Rattle.fn_tree.specs.Statement.{At, Ends, Goes, Returns, Failed, Asks, Stuck, Effects, Act, and_then, assigned, bind, cut, is_caught, ended, taken, text_or_type, bool_or_type, list_or_type, one_unit_less, with_unit, closed, in_order, block, block_with, chosen, turns, for_each, caught, value, condition, list_value, text_value, arguments, asked, given, statement, acted, body_of}
use Rattle.fn_tree.specs.Transaction.{Counted}
use Rattle.fn_tree.specs.Flow.{Place, Left, ask as ask_for, ask_or_stuck, on_asks, answered}
use Rattle.fn_meaning.proofs.StatementLemmas.{Shown, by_levels, acted_roll}
use Rattle.fn_flow.specs.Listed.{answered_by, ask_listed, ask_listed_or_stuck, on_list, stopped_at, end_of}

abbrev OnHeardIf : Bool → Outcome → (Outcome → Type 0) → Type 0 → Type 0
OnHeardIf true o go stop = go o
OnHeardIf false o go stop = stop

-- what holds of an answer of the name, else what holds where the run stops
abbrev OnHeard : Option Answer → Request → (Outcome → Type 0) → Type 0 → Type 0
OnHeard None q go stop = stop
OnHeard (Some a) q go stop = OnHeardIf (bytes_eq a.name q.name) a.outcome go stop

on_heard_if : (b : Bool) (o : Outcome) (go go' : Outcome → Type 0) (stop stop' : Type 0) → ((o : Outcome) → go o → go' o) → (stop → stop') → OnHeardIf b o go stop → OnHeardIf b o go' stop'
on_heard_if true o go go' stop stop' f k h = f o h
on_heard_if false o go go' stop stop' f k h = k h

on_heard : (a : Option Answer) (q : Request) (go go' : Outcome → Type 0) (stop stop' : Type 0) → ((o : Outcome) → go o → go' o) → (stop → stop') → OnHeard a q go stop → OnHeard a q go' stop'
on_heard None q go go' stop stop' f k h = k h
on_heard (Some a) q go go' stop stop' f k h = on_heard_if (bytes_eq a.name q.name) a.outcome go go' stop stop' f k h

module _ (answers : List Answer) where
  -- The second is the first with its asks answered from the list, of which so many are taken already.
  abbrev Follows : {A : Type 0} → ℕ → Left A → Left A → Type 0
  Follows w (Goes a at) d = (at.world ≡ w) × (d ≡ Goes a at)
  Follows w (Returns v at) d = d ≡ Returns v at
  Follows w (Failed word at) d = (at.world ≡ w) × (d ≡ Failed word at)
  Follows w (Asks q at next) d = (at.world ≡ w) × OnHeard (slice_get answers w) q (λ o. Follows (suc w) (next o) d) (d ≡ Asks q at (λ o. Stuck))
  Follows w Stuck d = d ≡ Stuck

  -- one part follows another, from each place
  abbrev Tracks : {A : Type 0} → (Place → Left A) → (Place → Left A) → Type 0
  Tracks f g = (at : Place) → Follows at.world (f at) (g at)

  then_follows : {A B : Type 0} (w : ℕ) (d d' : Left A) (go go' : A → Place → Left B) → Follows w d d' → ((a : A) → Tracks (go a) (go' a)) → Follows w (and_then d go) (and_then d' go')
  then_follows {B = B} w (Goes a at) d' go go' h f =
      let P : Left B → Type 0 = λ x. Follows w (go a at) x in
      let N : ℕ → Type 0 = λ n. Follows n (go a at) (go' a at) in
      subst P (sym (ap (λ d. and_then d go') h.1)) (subst N h.0 (f a at))
  then_follows w (Returns v at) d' go go' h f = ap (λ d. and_then d go') h
  then_follows w (Failed word at) d' go go' h f = (h.0, ap (λ d. and_then d go') h.1)
  then_follows w (Asks q at next) d' go go' h f =
      (h.0, on_heard (slice_get answers w) q _ _ _ _ (λ o k. then_follows (suc w) (next o) d' go go' k f) (λ e. ap (λ d. and_then d go') e) h.1)
  then_follows w Stuck d' go go' h f = ap (λ d. and_then d go') h

  then_tracks : {A B : Type 0} (m m' : Place → Left A) (go go' : A → Place → Left B) → Tracks m m' → ((a : A) → Tracks (go a) (go' a)) → Tracks (λ at. and_then (m at) go) (λ at. and_then (m' at) go')
  then_tracks m m' go go' h f at = then_follows at.world (m at) (m' at) go go' (h at) f

  ended_follows : {A : Type 0} (at : Place) (d : End A) → Follows at.world (ended {Q = Request} at d) (ended at d)
  ended_follows at (Gives a units cost) = (refl, refl)
  ended_follows at (Fails word units cost) = (refl, refl)
  ended_follows at NoEnd = refl

  taken_tracks : (o : Outcome) → Tracks (taken o) (taken o)
  taken_tracks (Value v) at = (refl, refl)
  taken_tracks (Failure word) at = (refl, refl)

  text_tracks : (o : Option (List ℕ)) → Tracks (text_or_type o) (text_or_type o)
  text_tracks (Some t) at = (refl, refl)
  text_tracks None at = (refl, refl)

  bool_tracks : (o : Option Bool) → Tracks (bool_or_type o) (bool_or_type o)
  bool_tracks (Some t) at = (refl, refl)
  bool_tracks None at = (refl, refl)

  list_tracks : (o : Option (List Val)) → Tracks (list_or_type o) (list_or_type o)
  list_tracks (Some t) at = (refl, refl)
  list_tracks None at = (refl, refl)

  less_follows : (n : ℕ) (go go' : Act Request ℕ) → Tracks go go' → (at : Place) → Follows at.world (one_unit_less n at go) (one_unit_less n at go')
  less_follows zero go go' h at = (refl, refl)
  less_follows (suc n) go go' h at = h (record at { units = n })

  unit_tracks : (go go' : Act Request ℕ) → Tracks go go' → Tracks (with_unit go) (with_unit go')
  unit_tracks go go' h at = less_follows at.units go go' h at

  closed_follows : (w n : ℕ) (d d' : Left (Unit {0})) → Follows w d d' → Follows w (closed n d) (closed n d')
  closed_follows w n (Goes a at) d' h = (h.0, ap (closed n) h.1)
  closed_follows w n (Returns v at) d' h = ap (closed n) h
  closed_follows w n (Failed word at) d' h = (h.0, ap (closed n) h.1)
  closed_follows w n (Asks q at next) d' h =
      (h.0, on_heard (slice_get answers w) q _ _ _ _ (λ o k. closed_follows (suc w) n (next o) d' k) (λ e. ap (closed n) e) h.1)
  closed_follows w n Stuck d' h = ap (closed n) h

  -- each of several acts
  abbrev AllTrack : List (Act Request ℕ) → List (Act Request ℕ) → Type 0
  AllTrack [] [] = Unit {0}
  AllTrack [] (g ∷ gs) = ⊥
  AllTrack (f ∷ fs) [] = ⊥
  AllTrack (f ∷ fs) (g ∷ gs) = Tracks f g × AllTrack fs gs

  order_tracks : (fs gs : List (Act Request ℕ)) → AllTrack fs gs → Tracks (in_order fs) (in_order gs)
  order_tracks [] [] h = λ at. (refl, refl)
  order_tracks [] (g ∷ gs) h = absurd h
  order_tracks (f ∷ fs) [] h = absurd h
  order_tracks (f ∷ fs) (g ∷ gs) h = then_tracks f g (λ u. in_order fs) (λ u. in_order gs) h.0 (λ u. order_tracks fs gs h.1)

  block_tracks : (fs gs : List (Act Request ℕ)) → AllTrack fs gs → Tracks (block fs) (block gs)
  block_tracks fs gs h at = closed_follows at.world (length at.env) (in_order fs at) (in_order gs at) (order_tracks fs gs h at)

  block_with_tracks : (name : List ℕ) (v : Val) (fs gs : List (Act Request ℕ)) → AllTrack fs gs → Tracks (block_with name v fs) (block_with name v gs)
  block_with_tracks name v fs gs h at = closed_follows at.world (length at.env) (in_order fs (bind name v at)) (in_order gs (bind name v at)) (order_tracks fs gs h (bind name v at))

  chosen_tracks : (b : Bool) (f f' g g' : Act Request ℕ) → Tracks f f' → Tracks g g' → Tracks (chosen b f g) (chosen b f' g')
  chosen_tracks true f f' g g' h k = h
  chosen_tracks false f f' g g' h k = k

  abbrev goes : Act Request ℕ
  goes at = Goes tt at

  goes_tracks : Tracks goes goes
  goes_tracks at = (refl, refl)

  turns_track : (n : ℕ) (test test' : Place → Left Bool) (body body' : Act Request ℕ) → Tracks test test' → Tracks body body' → Tracks (turns n test body) (turns n test' body')
  turns_track zero test test' body body' ht hb = λ at. (refl, refl)
  turns_track (suc n) test test' body body' ht hb =
      then_tracks test test' (λ b. chosen b (with_unit (λ at. and_then (body at) (λ u. turns n test body))) (Goes tt)) (λ b. chosen b (with_unit (λ at. and_then (body' at) (λ u. turns n test' body'))) (Goes tt)) ht
      (λ b. chosen_tracks b _ _ (Goes tt) (Goes tt) (unit_tracks _ _ (then_tracks body body' (λ u. turns n test body) (λ u. turns n test' body') hb (λ u. turns_track n test test' body body' ht hb))) goes_tracks)

  each_tracks : (vs : List Val) (name : List ℕ) (fs gs : List (Act Request ℕ)) → AllTrack fs gs → Tracks (for_each vs name fs) (for_each vs name gs)
  each_tracks [] name fs gs h = λ at. (refl, refl)
  each_tracks (v ∷ vs) name fs gs h =
      then_tracks (with_unit (block_with name v fs)) (with_unit (block_with name v gs)) (λ u. for_each vs name fs) (λ u. for_each vs name gs) (unit_tracks _ _ (block_with_tracks name v fs gs h)) (λ u. each_tracks vs name fs gs h)

  if_follows : (b : Bool) (w : ℕ) (d e d' e' : Left (Unit {0})) → Follows w d d' → Follows w e e' → Follows w (if b then d else e) (if b then d' else e')
  if_follows true w d e d' e' h k = h
  if_follows false w d e d' e' h k = k

  caught_follows : (name : List ℕ) (fs gs : List (Act Request ℕ)) → AllTrack fs gs → (w : ℕ) (d d' : Left (Unit {0})) → Follows w d d' → Follows w (caught name fs d) (caught name gs d')
  caught_follows name fs gs a w (Goes x at) d' h = (h.0, ap (caught name gs) h.1)
  caught_follows name fs gs a w (Returns v at) d' h = ap (caught name gs) h
  caught_follows name fs gs a w (Failed word at) d' h =
      let P : Left (Unit {0}) → Type 0 = λ x. Follows w (caught name fs (Failed word at)) x in
      let N : ℕ → Type 0 = λ n. Follows n (block_with name (Text word) fs at) (block_with name (Text word) gs at) in
      subst P (sym (ap (caught name gs) h.1)) (if_follows (is_caught word) w _ _ _ _ (subst N h.0 (block_with_tracks name (Text word) fs gs a at)) (h.0, refl))
  caught_follows name fs gs a w (Asks q at next) d' h =
      (h.0, on_heard (slice_get answers w) q _ _ _ _ (λ o k. caught_follows name fs gs a (suc w) (next o) d' k) (λ e. ap (caught name gs) e) h.1)
  caught_follows name fs gs a w Stuck d' h = ap (caught name gs) h

  -- an ask whose answer is in the list
  heard_ask_if : (b : Bool) (o : Outcome) (q : Request) (at : Place) → OnHeardIf b o (λ x. Follows (suc at.world) (taken x (record at { world = suc at.world })) (if b then taken o (record at { world = suc at.world }) else Asks q at (λ o. Stuck))) ((if b then taken o (record at { world = suc at.world }) else Asks q at (λ o. Stuck)) ≡ Asks q at (λ o. Stuck))
  heard_ask_if true o q at = taken_tracks o (record at { world = suc at.world })
  heard_ask_if false o q at = refl

  heard_ask : (a : Option Answer) (q : Request) (at : Place) → OnHeard a q (λ x. Follows (suc at.world) (taken x (record at { world = suc at.world })) (answered_by a q at)) (answered_by a q at ≡ Asks q at (λ o. Stuck))
  heard_ask None q at = refl
  heard_ask (Some a) q at = heard_ask_if (bytes_eq a.name q.name) a.outcome q at

  if_val_follows : (b : Bool) (w : ℕ) (d e d' e' : Left Val) → Follows w d d' → Follows w e e' → Follows w (if b then d else e) (if b then d' else e')
  if_val_follows true w d e d' e' h k = h
  if_val_follows false w d e d' e' h k = k

  ask_tracks : (k : AskKind) (name : List ℕ) (args : Val) → Tracks (ask_for k name args) (ask_listed answers k name args)
  ask_tracks k name args at =
      if_val_follows (nat_lt at.world 1000) at.world _ _ _ _ (refl, heard_ask (slice_get answers at.world) (record { n = at.world; kind = k; name = name; args = args }) at) (refl, refl)

  ask_or_stuck_tracks : (o : Option AskKind) (name : List ℕ) (args : Val) → Tracks (ask_or_stuck o name args) (ask_listed_or_stuck answers o name args)
  ask_or_stuck_tracks (Some k) name args = ask_tracks k name args
  ask_or_stuck_tracks None name args = λ at. refl

  module _ (items : List Item) (calls : Calls) where
    abbrev one : Effects Request ℕ
    one = on_asks items

    abbrev two : Effects Request ℕ
    two = on_list answers items

    value_tracks : (e : Expr) → Tracks (value one calls e) (value two calls e)
    value_tracks e at = ended_follows at (evaluated calls e at.env at.units at.cost)

    condition_tracks : (e : Expr) → Tracks (condition one calls e) (condition two calls e)
    condition_tracks e = then_tracks (value one calls e) (value two calls e) (λ v. bool_or_type (bool_of v)) (λ v. bool_or_type (bool_of v)) (value_tracks e) (λ v. bool_tracks (bool_of v))

    list_value_tracks : (e : Expr) → Tracks (list_value one calls e) (list_value two calls e)
    list_value_tracks e = then_tracks (value one calls e) (value two calls e) (λ v. list_or_type (items_of v)) (λ v. list_or_type (items_of v)) (value_tracks e) (λ v. list_tracks (items_of v))

    text_value_tracks : (e : Expr) → Tracks (text_value one calls e) (text_value two calls e)
    text_value_tracks e = then_tracks (value one calls e) (value two calls e) (λ v. text_or_type (text_of v)) (λ v. text_or_type (text_of v)) (value_tracks e) (λ v. text_tracks (text_of v))

    abbrev argument_list : List Expr → Place → Left (List Val)
    argument_list es at = ended at (values_onto [] (map (evaluated calls) es) at.env at.units at.cost)

    arguments_track : (es : List Expr) → Tracks (arguments one calls es) (arguments two calls es)
    arguments_track es =
        then_tracks (argument_list es) (argument_list es) (λ vs. taken (list_or_size vs)) (λ vs. taken (list_or_size vs))
        (λ at. ended_follows at (values_onto [] (map (evaluated calls) es) at.env at.units at.cost)) (λ vs. taken_tracks (list_or_size vs))

    asked_tracks : (a : Ask) → Tracks (asked one calls a) (asked two calls a)
    asked_tracks (ask.Call name args) = then_tracks (arguments one calls args) (arguments two calls args) (one.call name (length args)) (two.call name (length args)) (arguments_track args) (ask_or_stuck_tracks (called items name (length args)) name)
    asked_tracks (ask.Spawn name args) = then_tracks (arguments one calls args) (arguments two calls args) (one.spawn name (length args)) (two.spawn name (length args)) (arguments_track args) (ask_or_stuck_tracks (spawned items name (length args)) name)
    asked_tracks (ask.Await id) = then_tracks (text_value one calls id) (text_value two calls id) one.await two.await (text_value_tracks id) (λ t. ask_tracks kind.Await (codes "await") (Text t))

    given_tracks : (r : Rhs) → Tracks (given one calls r) (given two calls r)
    given_tracks (rhs.Plain e) = value_tracks e
    given_tracks (rhs.Ask a) = asked_tracks a
    given_tracks (rhs.Get table key) = then_tracks (value one calls key) (value two calls key) (one.get table) (two.get table) (value_tracks key) (λ k at. refl)
    given_tracks (rhs.Scan table lo hi) =
        then_tracks (value one calls lo) (value two calls lo) (λ l at. and_then (value one calls hi at) (one.scan table l)) (λ l at. and_then (value two calls hi at) (two.scan table l)) (value_tracks lo)
        (λ l. then_tracks (value one calls hi) (value two calls hi) (one.scan table l) (two.scan table l) (value_tracks hi) (λ h at. refl))

    abbrev P : Stmt → Type 0
    P s = Tracks (acted one calls s) (acted two calls s)

    abbrev acts : Effects Request ℕ → List (Shown P) → List (Act Request ℕ)
    acts effects ss = map (acted effects calls) (map (λ s. s.0) ss)

    acts_track : (ss : List (Shown P)) → AllTrack (acts one ss) (acts two ss)
    acts_track [] = tt
    acts_track (s ∷ ss) = (s.1, acts_track ss)

    abbrev done_by : Effects Request ℕ → Stmt-F (Shown P) → Act Request ℕ
    done_by effects y = statement effects calls (map-Stmt Stmt (Act Request ℕ) (acted effects calls) (map-Stmt (Shown P) Stmt (λ s. s.0) y))

    statement_tracks : (y : Stmt-F (Shown P)) → Tracks (done_by one y) (done_by two y)
    statement_tracks (Stmt-F.Let name r) = then_tracks (given one calls r) (given two calls r) (λ v at. Goes tt (bind name v at)) (λ v at. Goes tt (bind name v at)) (given_tracks r) (λ v at. (refl, refl))
    statement_tracks (Stmt-F.Set name r) = then_tracks (given one calls r) (given two calls r) (λ v at. Goes tt (record at { env = assigned at.env name v })) (λ v at. Goes tt (record at { env = assigned at.env name v })) (given_tracks r) (λ v at. (refl, refl))
    statement_tracks (Stmt-F.Do a) = then_tracks (asked one calls a) (asked two calls a) (λ v. Goes tt) (λ v. Goes tt) (asked_tracks a) (λ v at. (refl, refl))
    statement_tracks (Stmt-F.Put table key e) =
        then_tracks (value one calls key) (value two calls key) (λ k at. and_then (value one calls e at) (one.put table k)) (λ k at. and_then (value two calls e at) (two.put table k)) (value_tracks key)
        (λ k. then_tracks (value one calls e) (value two calls e) (one.put table k) (two.put table k) (value_tracks e) (λ v at. refl))
    statement_tracks (Stmt-F.Delete table key) = then_tracks (value one calls key) (value two calls key) (one.delete table) (two.delete table) (value_tracks key) (λ k at. refl)
    statement_tracks (Stmt-F.If cond first None) =
        then_tracks (condition one calls cond) (condition two calls cond) (λ b. chosen b (block (acts one first)) (Goes tt)) (λ b. chosen b (block (acts two first)) (Goes tt)) (condition_tracks cond)
        (λ b. chosen_tracks b _ _ (Goes tt) (Goes tt) (block_tracks (acts one first) (acts two first) (acts_track first)) goes_tracks)
    statement_tracks (Stmt-F.If cond first (Some other)) =
        then_tracks (condition one calls cond) (condition two calls cond) (λ b. chosen b (block (acts one first)) (block (acts one other))) (λ b. chosen b (block (acts two first)) (block (acts two other))) (condition_tracks cond)
        (λ b. chosen_tracks b _ _ _ _ (block_tracks (acts one first) (acts two first) (acts_track first)) (block_tracks (acts one other) (acts two other) (acts_track other)))
    statement_tracks (Stmt-F.While cond body) = λ at.
        turns_track (suc at.units) (condition one calls cond) (condition two calls cond) (block (acts one body)) (block (acts two body)) (condition_tracks cond) (block_tracks (acts one body) (acts two body) (acts_track body)) at
    statement_tracks (Stmt-F.Each name list body) =
        then_tracks (list_value one calls list) (list_value two calls list) (λ vs. for_each vs name (acts one body)) (λ vs. for_each vs name (acts two body)) (list_value_tracks list)
        (λ vs. each_tracks vs name (acts one body) (acts two body) (acts_track body))
    statement_tracks (Stmt-F.Try body name handler) = λ at.
        caught_follows name (acts one handler) (acts two handler) (acts_track handler) at.world (block (acts one body) at) (block (acts two body) at) (block_tracks (acts one body) (acts two body) (acts_track body) at)
    statement_tracks (Stmt-F.Return e) = then_tracks (value one calls e) (value two calls e) Returns Returns (value_tracks e) (λ v at. refl)
    statement_tracks (Stmt-F.Fail e) = then_tracks (text_value one calls e) (text_value two calls e) Failed Failed (text_value_tracks e) (λ t at. (refl, refl))

    level : (y : Stmt-F (Shown P)) → P (roll-Stmt (map-Stmt (Shown P) Stmt (λ s. s.0) y))
    level y at =
        let x = map-Stmt (Shown P) Stmt (λ s. s.0) y in
        let L : Left (Unit {0}) → Type 0 = λ d. Follows at.world d (acted two calls (roll-Stmt x) at) in
        let R : Left (Unit {0}) → Type 0 = λ d. Follows at.world (done_by one y at) d in
        subst L (sym (acted_roll one calls x at)) (subst R (sym (acted_roll two calls x at)) (statement_tracks y at))

    act_tracks : (s : Stmt) → P s
    act_tracks = by_levels P level

    all_track : (body : List Stmt) → AllTrack (map (acted one calls) body) (map (acted two calls) body)
    all_track [] = tt
    all_track (s ∷ body) = (act_tracks s, all_track body)

    pub body_tracks : (body : List Stmt) (at : Place) → Follows at.world (body_of one calls body at) (body_of two calls body at)
    body_tracks body = order_tracks (map (acted one calls) body) (map (acted two calls) body) (all_track body)

  -- the answers from a place on, by the one that is there
  abbrev from : Option Answer → List Answer → List Answer
  from None rest = []
  from (Some a) rest = a ∷ rest

  ended_if : (b : Bool) (a : Answer) (q : Request) (w : ℕ) (at : Place) (next : Outcome → Left (Unit {0})) (d : Left (Unit {0})) → slice_get answers at.world ≡ Some a → ((o : Outcome) → Follows (suc w) (next o) d → answered (next o) (drop (suc w) answers) ≡ end_of answers d) → OnHeardIf b a.outcome (λ o. Follows (suc w) (next o) d) (d ≡ Asks q at (λ o. Stuck)) → (if b then answered (next a.outcome) (drop (suc w) answers) else Some (record { run = flow.Unexpected q.n a.name q.name; cost = at.cost })) ≡ end_of answers d
  ended_if true a q w at next d is f h = f a.outcome h
  ended_if false a q w at next d is f h = sym (ap (end_of answers) h ∙ ap (λ o. stopped_at answers o q at.cost) is)

  ended_by : (a : Option Answer) (q : Request) (w : ℕ) (at : Place) (next : Outcome → Left (Unit {0})) (d : Left (Unit {0})) → slice_get answers at.world ≡ a → ((o : Outcome) → Follows (suc w) (next o) d → answered (next o) (drop (suc w) answers) ≡ end_of answers d) → OnHeard a q (λ o. Follows (suc w) (next o) d) (d ≡ Asks q at (λ o. Stuck)) → answered (Asks q at next) (from a (drop (suc w) answers)) ≡ end_of answers d
  ended_by None q w at next d is f h = sym (ap (end_of answers) h ∙ ap (λ o. stopped_at answers o q at.cost) is)
  ended_by (Some a) q w at next d is f h = ended_if (bytes_eq a.name q.name) a q w at next d is f h

drop_from : (answers : List Answer) (w : ℕ) → drop w answers ≡ from answers (slice_get answers w) (drop (suc w) answers)
drop_from [] zero = refl
drop_from [] (suc w) = refl
drop_from (a ∷ answers) zero = refl
drop_from (a ∷ answers) (suc w) = drop_from answers w

-- the run on the answers that are left ends as the one that takes them from the list
pub same_end : (answers : List Answer) (w : ℕ) (d d' : Left (Unit {0})) → Follows answers w d d' → answered d (drop w answers) ≡ end_of answers d'
same_end answers w (Goes a at) d' h = sym (ap (end_of answers) h.1)
same_end answers w (Returns v at) d' h = sym (ap (end_of answers) h)
same_end answers w (Failed word at) d' h = sym (ap (end_of answers) h.1)
same_end answers w (Asks q at next) d' h =
    ap (answered (Asks q at next)) (drop_from answers w)
    ∙ ended_by answers (slice_get answers w) q w at next d' (ap (slice_get answers) h.0) (λ o k. same_end answers (suc w) (next o) d' k) h.1
same_end answers w Stuck d' h = sym (ap (end_of answers) h)
