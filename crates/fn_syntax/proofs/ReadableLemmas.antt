-- Every name in a program has 1 to 64 bytes, and an item has at most 16 parameters.
use Rattle.std.proofs.Common.{◌≡◌, ℕ, suc, ◌<◌, List, [], ◌∷◌, ◌++◌, length, Bool, true, false, Some, None, refl, ap, subst, inl, inr, ◌⊎◌, arith}
use Rattle.std.specs.Prelude.{◌||◌, nat_lt}
use Rattle.std.specs.List.{AllByRecursion}
use Rattle.std.proofs.lemmas.Bool.{leb-false, lt-ltb}
use Rattle.fn_lex.specs.declared.span.Token.{Token}
use Rattle.fn_lex.specs.Lexed.{IsSlice}
use Rattle.fn_tree.specs.declared.stmt.Stmt.{Stmt}
use Rattle.fn_tree.specs.declared.stmt.Stmt as stmt
use Rattle.fn_tree.specs.declared.program.Item.{Item}
use Rattle.fn_tree.specs.declared.program.Item.TheVariants as item
use Rattle.fn_tree.specs.Soundness.{each_passes, is_name}
use Rattle.fn_grammar.specs.declared.symbol.Part.TheVariants as part
use Rattle.fn_grammar.specs.declared.symbol.Action.{Action}
use Rattle.fn_grammar.specs.declared.symbol.Action.TheVariants as act
use Rattle.fn_grammar.specs.declared.symbol.Declaration.{Declaration}
use Rattle.fn_grammar.specs.declared.symbol.Declaration.TheVariants as item_kind
use Rattle.fn_grammar.specs.declared.symbol.Statement.{Statement}
use Rattle.fn_grammar.specs.declared.symbol.Statement.TheVariants as stmt_kind
use Rattle.fn_grammar.specs.declared.symbol.Binding.{Binding}
use Rattle.fn_grammar.specs.declared.symbol.Binding.TheVariants as bind_kind
use Rattle.fn_grammar.specs.declared.symbol.Symbol.{Symbol}
use Rattle.fn_grammar.specs.declared.symbol.Symbol.TheVariants.{Fixed, Name, Param, Bound, Number, Text, Part, Make, Begin, End}
use Rattle.fn_grammar.specs.Letters.{Letter, letters, fits}
use Rattle.fn_grammar.specs.Trees.{Trees, no_trees, first, rest, onto, name, list, expr, expr_below, block, block_below, rhs, ask, bound, item_made, statement_made, binding_made, made}
use Rattle.fn_grammar.specs.Derivation.{State, start, Derives, done, read, make, begin, end, by_rule, IsProgram, has, deeper, crowded, over, pushed, after_letter, after_make, after_begin, after_end}
use Rattle.fn_syntax.proofs.DerivationLemmas.{and_left, and_right, and_both}
use Rattle.fn_syntax.proofs.SupplyLemmas.{statement_takes, takes, enough, has_room, supplied, part_supplied, make_supplied, make_enough}
use Rattle.fn_syntax.proofs.NameLemmas.{IsName, are_joined, IsNamed, IsBlock, block_named, let_named, set_named, do_named, put_named, delete_named, if_named, if_else_named, while_named, each_named, try_named, return_named, fail_named, block_more, item_names, item_few, named_item, passes_more, IsParams, HasRoom, IsOfText, are_of_text}

-- what holds of the trees: each name fits, and each list of parameters
pub record AreReadable (t : Trees) : Type 0 where
  pub names : AllByRecursion IsName t.names
  pub lists : AllByRecursion IsParams t.lists
  pub blocks : AllByRecursion IsBlock t.blocks
  pub named : each_passes item_names t.items ≡ true
  pub few : each_passes item_few t.items ≡ true

-- stacks

rest_are : {X : Type 0} (P : X → Type 0) (xs : List X) → AllByRecursion P xs → AllByRecursion P (rest xs)
rest_are P [] h = tt
rest_are P (x ∷ xs) h = h.1

first_is : {X : Type 0} (P : X → Type 0) (d : X) (xs : List X) → P d → AllByRecursion P xs → P (first d xs)
first_is P d [] p h = p
first_is P d (x ∷ xs) p h = h.0

top_name : (names : List (List ℕ)) → AllByRecursion IsName names → enough true (length names) ≡ true → IsName (first [] names)
top_name [] h e = absurd (cc)
top_name (x ∷ names) h e = h.0

onto_block : (s : Stmt) (blocks : List (List Stmt)) → IsNamed s → AllByRecursion IsBlock blocks → AllByRecursion IsBlock (onto s blocks)
onto_block s blocks n h = (block_more (first [] blocks) s (first_is IsBlock [] blocks tt h) n, rest_are IsBlock blocks h)

longer : {X : Type 0} (xs : List X) (x : X) → length (xs ++ x ∷ []) ≡ suc (length xs)
longer [] x = refl
longer (y ∷ xs) x = ap suc (longer xs x)

few_more : (l : List (List ℕ)) (x : List ℕ) → HasRoom l → nat_lt (length (l ++ x ∷ [])) 17 ≡ true
few_more l x h = let a : length l < 16 = leb-false 16 (length l) h in let e = longer l x in lt-ltb (length (l ++ x ∷ [])) 17 (omega (arith, a, e))

onto_list : (x : List ℕ) (lists : List (List (List ℕ))) → IsName x → HasRoom (first [] lists) → AllByRecursion IsParams lists → AllByRecursion IsParams (onto x lists)
onto_list x lists n room h =
    let l = first [] lists in
    let p : IsParams l = first_is IsParams [] lists (refl, refl) h in
    ((are_joined l (x ∷ []) p.0 (and_both (is_name x) true n refl), few_more l x room), rest_are IsParams lists h)

-- each action

abbrev params : (t : Trees) → AreReadable t → IsParams (list t)
params t r = first_is IsParams [] t.lists (refl, refl) r.lists

abbrev top_block : (t : Trees) → AreReadable t → IsBlock (block t)
top_block t r = first_is IsBlock [] t.blocks tt r.blocks

abbrev below : (t : Trees) → AreReadable t → IsBlock (block_below t)
below t r = first_is IsBlock [] (rest t.blocks) tt (rest_are IsBlock t.blocks r.blocks)

item_readable : (k : Declaration) (t : Trees) → AreReadable t → IsName (name t) → AreReadable (item_made k t)
item_readable item_kind.Table t r n = record { names = rest_are IsName t.names r.names; lists = r.lists; blocks = r.blocks; named = passes_more item_names t.items (item.Table (name t)) r.named (named_item (item.Table (name t)) n refl refl); few = passes_more item_few t.items (item.Table (name t)) r.few refl }
item_readable item_kind.Queue t r n = record { names = rest_are IsName t.names r.names; lists = r.lists; blocks = r.blocks; named = passes_more item_names t.items (item.Queue (name t) (bound t)) r.named (named_item (item.Queue (name t) (bound t)) n refl refl); few = passes_more item_few t.items (item.Queue (name t) (bound t)) r.few refl }
item_readable item_kind.Outside t r n = record { names = rest_are IsName t.names r.names; lists = rest_are IsParams t.lists r.lists; blocks = r.blocks; named = passes_more item_names t.items (item.Outside (name t) (list t)) r.named (named_item (item.Outside (name t) (list t)) n (params t r).0 refl); few = passes_more item_few t.items (item.Outside (name t) (list t)) r.few (params t r).1 }
item_readable item_kind.Helper t r n = record { names = rest_are IsName t.names r.names; lists = rest_are IsParams t.lists r.lists; blocks = r.blocks; named = passes_more item_names t.items (item.Helper (name t) (list t) (expr t)) r.named (named_item (item.Helper (name t) (list t) (expr t)) n (params t r).0 refl); few = passes_more item_few t.items (item.Helper (name t) (list t) (expr t)) r.few (params t r).1 }
item_readable item_kind.Txn t r n = record { names = rest_are IsName t.names r.names; lists = rest_are IsParams t.lists r.lists; blocks = rest_are IsBlock t.blocks r.blocks; named = passes_more item_names t.items (item.Txn false (name t) (list t) (block t)) r.named (named_item (item.Txn false (name t) (list t) (block t)) n (params t r).0 (block_named (block t) (top_block t r))); few = passes_more item_few t.items (item.Txn false (name t) (list t) (block t)) r.few (params t r).1 }
item_readable item_kind.Flow t r n = record { names = rest_are IsName t.names r.names; lists = rest_are IsParams t.lists r.lists; blocks = rest_are IsBlock t.blocks r.blocks; named = passes_more item_names t.items (item.Flow (name t) (list t) (block t)) r.named (named_item (item.Flow (name t) (list t) (block t)) n (params t r).0 (block_named (block t) (top_block t r))); few = passes_more item_few t.items (item.Flow (name t) (list t) (block t)) r.few (params t r).1 }

statement_readable : (k : Statement) (t : Trees) → AreReadable t → enough (statement_takes k) (length t.names) ≡ true → AreReadable (statement_made k t)
statement_readable stmt_kind.Let t r e = record { names = rest_are IsName t.names r.names; lists = r.lists; blocks = onto_block (stmt.Let (name t) (rhs t)) t.blocks (let_named (name t) (rhs t) (top_name t.names r.names e)) r.blocks; named = r.named; few = r.few }
statement_readable stmt_kind.Set t r e = record { names = rest_are IsName t.names r.names; lists = r.lists; blocks = onto_block (stmt.Set (name t) (rhs t)) t.blocks (set_named (name t) (rhs t)) r.blocks; named = r.named; few = r.few }
statement_readable stmt_kind.Do t r e = record { names = r.names; lists = r.lists; blocks = onto_block (stmt.Do (ask t)) t.blocks (do_named (ask t)) r.blocks; named = r.named; few = r.few }
statement_readable stmt_kind.Put t r e = record { names = rest_are IsName t.names r.names; lists = r.lists; blocks = onto_block (stmt.Put (name t) (expr_below t) (expr t)) t.blocks (put_named (name t) (expr_below t) (expr t)) r.blocks; named = r.named; few = r.few }
statement_readable stmt_kind.Delete t r e = record { names = rest_are IsName t.names r.names; lists = r.lists; blocks = onto_block (stmt.Delete (name t) (expr t)) t.blocks (delete_named (name t) (expr t)) r.blocks; named = r.named; few = r.few }
statement_readable stmt_kind.If t r e = record { names = r.names; lists = r.lists; blocks = onto_block (stmt.If (expr t) (block t) None) (rest t.blocks) (if_named (expr t) (block t) (top_block t r)) (rest_are IsBlock t.blocks r.blocks); named = r.named; few = r.few }
statement_readable stmt_kind.IfElse t r e = record { names = r.names; lists = r.lists; blocks = onto_block (stmt.If (expr t) (block_below t) (Some (block t))) (rest (rest t.blocks)) (if_else_named (expr t) (block_below t) (block t) (below t r) (top_block t r)) (rest_are IsBlock (rest t.blocks) (rest_are IsBlock t.blocks r.blocks)); named = r.named; few = r.few }
statement_readable stmt_kind.While t r e = record { names = r.names; lists = r.lists; blocks = onto_block (stmt.While (expr t) (block t)) (rest t.blocks) (while_named (expr t) (block t) (top_block t r)) (rest_are IsBlock t.blocks r.blocks); named = r.named; few = r.few }
statement_readable stmt_kind.Each t r e = record { names = rest_are IsName t.names r.names; lists = r.lists; blocks = onto_block (stmt.Each (name t) (expr t) (block t)) (rest t.blocks) (each_named (name t) (expr t) (block t) (top_name t.names r.names e) (top_block t r)) (rest_are IsBlock t.blocks r.blocks); named = r.named; few = r.few }
statement_readable stmt_kind.Try t r e = record { names = rest_are IsName t.names r.names; lists = r.lists; blocks = onto_block (stmt.Try (block_below t) (name t) (block t)) (rest (rest t.blocks)) (try_named (block_below t) (name t) (block t) (below t r) (top_name t.names r.names e) (top_block t r)) (rest_are IsBlock (rest t.blocks) (rest_are IsBlock t.blocks r.blocks)); named = r.named; few = r.few }
statement_readable stmt_kind.Return t r e = record { names = r.names; lists = r.lists; blocks = onto_block (stmt.Return (expr t)) t.blocks (return_named (expr t)) r.blocks; named = r.named; few = r.few }
statement_readable stmt_kind.Fail t r e = record { names = r.names; lists = r.lists; blocks = onto_block (stmt.Fail (expr t)) t.blocks (fail_named (expr t)) r.blocks; named = r.named; few = r.few }

binding_readable : (k : Binding) (t : Trees) → AreReadable t → AreReadable (binding_made k t)
binding_readable bind_kind.Call t r = record { names = rest_are IsName t.names r.names; lists = r.lists; blocks = r.blocks; named = r.named; few = r.few }
binding_readable bind_kind.Spawn t r = record { names = rest_are IsName t.names r.names; lists = r.lists; blocks = r.blocks; named = r.named; few = r.few }
binding_readable bind_kind.Await t r = record { names = r.names; lists = r.lists; blocks = r.blocks; named = r.named; few = r.few }
binding_readable bind_kind.Asked t r = record { names = r.names; lists = r.lists; blocks = r.blocks; named = r.named; few = r.few }
binding_readable bind_kind.Get t r = record { names = rest_are IsName t.names r.names; lists = r.lists; blocks = r.blocks; named = r.named; few = r.few }
binding_readable bind_kind.Scan t r = record { names = rest_are IsName t.names r.names; lists = r.lists; blocks = r.blocks; named = r.named; few = r.few }
binding_readable bind_kind.Plain t r = record { names = r.names; lists = r.lists; blocks = r.blocks; named = r.named; few = r.few }

made_readable : (a : Action) (t : Trees) (room : Bool) → AreReadable t → enough (takes a) (length t.names) ≡ true → has_room a room ≡ true → (room ≡ true → HasRoom (list t)) → AreReadable (made a t)
made_readable (act.Item k) t room r e f h = item_readable k t r (top_name t.names r.names e)
made_readable (act.Stmt k) t room r e f h = statement_readable k t r e
made_readable (act.Bind k) t room r e f h = binding_readable k t r
made_readable (act.Two op) t room r e f h = record { names = r.names; lists = r.lists; blocks = r.blocks; named = r.named; few = r.few }
made_readable (act.One op) t room r e f h = record { names = r.names; lists = r.lists; blocks = r.blocks; named = r.named; few = r.few }
made_readable act.NoNames t room r e f h = record { names = r.names; lists = ((refl, refl), r.lists); blocks = r.blocks; named = r.named; few = r.few }
made_readable act.AddName t room r e f h = record { names = rest_are IsName t.names r.names; lists = onto_list (name t) t.lists (top_name t.names r.names e) (h f) r.lists; blocks = r.blocks; named = r.named; few = r.few }
made_readable act.NoExprs t room r e f h = record { names = r.names; lists = r.lists; blocks = r.blocks; named = r.named; few = r.few }
made_readable act.AddExpr t room r e f h = record { names = r.names; lists = r.lists; blocks = r.blocks; named = r.named; few = r.few }
made_readable act.Empty t room r e f h = record { names = r.names; lists = r.lists; blocks = (tt, r.blocks); named = r.named; few = r.few }
made_readable act.Null t room r e f h = record { names = r.names; lists = r.lists; blocks = r.blocks; named = r.named; few = r.few }
made_readable act.True t room r e f h = record { names = r.names; lists = r.lists; blocks = r.blocks; named = r.named; few = r.few }
made_readable act.False t room r e f h = record { names = r.names; lists = r.lists; blocks = r.blocks; named = r.named; few = r.few }
made_readable act.List t room r e f h = record { names = r.names; lists = r.lists; blocks = r.blocks; named = r.named; few = r.few }
made_readable act.Apply t room r e f h = record { names = rest_are IsName t.names r.names; lists = r.lists; blocks = r.blocks; named = r.named; few = r.few }
made_readable act.Variable t room r e f h = record { names = rest_are IsName t.names r.names; lists = r.lists; blocks = r.blocks; named = r.named; few = r.few }

-- a letter of a text

false_right : (a b : Bool) → (a || b) ≡ false → b ≡ false
false_right true b h = absurd (cc)
false_right false b h = h

not_crowded : (x : Letter) (s : Symbol) (v : State) → x.free ≡ false → (x.free ≡ true) ⊎ (over s v ≡ false) → crowded s v ≡ false
not_crowded x s v f (inl e) = absurd (cc)
not_crowded x s v f (inr e) = false_right (deeper s v.depth) (crowded s v) (false_right (has 1024 v.used) (deeper s v.depth || crowded s v) e)

-- what the invariant says of what is ahead and of the state
pub record IsReady (todo : List Symbol) (t : Trees) : Type 0 where
  pub room : Bool
  pub has : room ≡ true → HasRoom (list t)
  pub supply : supplied todo (length t.names) room ≡ true
  pub trees : AreReadable t

no_room : (t : Trees) → false ≡ true → HasRoom (list t)
no_room t e = absurd (cc)

read_ready : (s : Symbol) (x : Letter) (todo : List Symbol) (v : State) → fits s x ≡ true → (x.free ≡ true) ⊎ (over s v ≡ false) → IsOfText x → IsReady (s ∷ todo) v.trees → IsReady todo (pushed s x v.trees)
read_ready (Fixed l) x todo v f o w k = record { room = false; has = no_room (pushed (Fixed l) x v.trees); supply = k.supply; trees = record { names = k.trees.names; lists = k.trees.lists; blocks = k.trees.blocks; named = k.trees.named; few = k.trees.few } }
read_ready Name x todo v f o w k = record { room = false; has = no_room (pushed Name x v.trees); supply = k.supply; trees = record { names = (w.1 f, k.trees.names); lists = k.trees.lists; blocks = k.trees.blocks; named = k.trees.named; few = k.trees.few } }
read_ready Param x todo v f o w k = record { room = true; has = λ e. not_crowded x Param v w.0 o; supply = k.supply; trees = record { names = (w.1 f, k.trees.names); lists = k.trees.lists; blocks = k.trees.blocks; named = k.trees.named; few = k.trees.few } }
read_ready Bound x todo v f o w k = record { room = false; has = no_room (pushed Bound x v.trees); supply = k.supply; trees = record { names = k.trees.names; lists = k.trees.lists; blocks = k.trees.blocks; named = k.trees.named; few = k.trees.few } }
read_ready Number x todo v f o w k = record { room = false; has = no_room (pushed Number x v.trees); supply = k.supply; trees = record { names = k.trees.names; lists = k.trees.lists; blocks = k.trees.blocks; named = k.trees.named; few = k.trees.few } }
read_ready Text x todo v f o w k = record { room = false; has = no_room (pushed Text x v.trees); supply = k.supply; trees = record { names = k.trees.names; lists = k.trees.lists; blocks = k.trees.blocks; named = k.trees.named; few = k.trees.few } }
read_ready (Part p) x todo v f o w k = absurd (cc)
read_ready (Make a) x todo v f o w k = absurd (cc)
read_ready Begin x todo v f o w k = absurd (cc)
read_ready End x todo v f o w k = absurd (cc)

make_ready : (a : Action) (todo : List Symbol) (t : Trees) → IsReady (Make a ∷ todo) t → IsReady todo (made a t)
make_ready a todo t k =
    let e = make_enough a todo t k.room k.supply in
    record {
      room = false;
      has = no_room (made a t);
      supply = make_supplied a todo t k.room k.supply;
      trees = made_readable a t k.room k.trees (and_left (enough (takes a) (length t.names)) (has_room a k.room) e) (and_right (enough (takes a) (length t.names)) (has_room a k.room) e) k.has;
    }

readable : (todo : List Symbol) (v w : State) (xs : List Letter) → Derives todo v xs w → AllByRecursion IsOfText xs → IsReady todo v.trees → AreReadable w.trees
readable todo v w xs done h k = k.trees
readable todo v w xs (read {todo = more} {xs = ys} s x f o d) h k = readable more (after_letter s x v) w ys d h.1 (read_ready s x more v f o h.0 k)
readable todo v w xs (make {todo = more} a d) h k = readable more (after_make a v) w xs d h (make_ready a more v.trees k)
readable todo v w xs (begin {todo = more} d) h k = readable more (after_begin v) w xs d h (record { room = false; has = no_room v.trees; supply = k.supply; trees = k.trees })
readable todo v w xs (end {todo = more} d) h k = readable more (after_end v) w xs d h (record { room = false; has = no_room v.trees; supply = k.supply; trees = k.trees })
readable todo v w xs (by_rule {todo = more} p r i d) h k = readable (r ++ more) v w xs d h (record { room = k.room; has = k.has; supply = part_supplied p r more (length v.trees.names) k.room i k.supply; trees = k.trees })

at_start : IsReady (Part part.Items ∷ []) no_trees
at_start = record { room = false; has = no_room no_trees; supply = refl; trees = record { names = tt; lists = tt; blocks = tt; named = refl; few = refl } }

-- a program's names have 1 to 64 bytes, and its items at most 16 parameters
pub program_names : (text : List ℕ) (ts : List Token) (items : List Item) → AllByRecursion (IsSlice text) ts → IsProgram (letters text ts) items → each_passes item_names items ≡ true
program_names text ts items s d = subst (λ items. each_passes item_names items ≡ true) d.2 (readable (Part part.Items ∷ []) start d.0 (letters text ts) d.1 (are_of_text text ts s) at_start).named

pub program_few : (text : List ℕ) (ts : List Token) (items : List Item) → AllByRecursion (IsSlice text) ts → IsProgram (letters text ts) items → each_passes item_few items ≡ true
program_few text ts items s d = subst (λ items. each_passes item_few items ≡ true) d.2 (readable (Part part.Items ∷ []) start d.0 (letters text ts) d.1 (are_of_text text ts s) at_start).few
