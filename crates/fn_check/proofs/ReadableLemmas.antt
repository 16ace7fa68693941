-- The names in a statement, one level at a time.
use Rattle.std.proofs.Common.{◌≡◌, ℕ, Bool, true, false, List, [], ◌∷◌, ◌++◌, Option, Some, None, refl, ap, sym, ◌∙◌, length}
use Rattle.std.specs.Prelude.{◌&&◌, ◌↔◌, IsTrue, map, nat_lt}
use Rattle.fn_tree.specs.declared.expr.Expr.{Expr}
use Rattle.fn_tree.specs.declared.program.Item.{Item}
use Rattle.fn_tree.specs.declared.stmt.Ask.{Ask}
use Rattle.fn_tree.specs.declared.stmt.Rhs.{Rhs}
use Rattle.fn_tree.specs.declared.stmt.Stmt.{Stmt, roll-Stmt}
use Rattle.fn_tree.specs.declared.stmt.Stmt as variant
use Rattle.fn_tree.specs.declared.stmt.Stmt.TheOpen.{Stmt-F}
use Rattle.fn_tree.specs.declared.stmt.Stmt.TheFolds.{map-Stmt}
use Rattle.fn_tree.specs.declared.stmt.Stmt.TheVariants.{rolls-Let, rolls-Set, rolls-Do, rolls-Put, rolls-Delete, rolls-If, rolls-While, rolls-Each, rolls-Try, rolls-Return, rolls-Fail}
use Rattle.fn_tree.specs.Soundness.{name_of, params_of, each_passes, is_name, are_names, names_among, names_bound, body_names, names_in}
use Rattle.fn_meaning.proofs.SoundExpression.{and_first, and_second}
use Rattle.fn_meaning.proofs.StatementLemmas.{names_roll}
use Rattle.fn_check.specs.FirstFault.{IsReadable, is_readable_item, names_of, all_fit}
use Rattle.fn_check.proofs.BoolLemmas.{and_same, and_assoc, and_true, both_true}

are_append : (xs ys : List (List ℕ)) → are_names (xs ++ ys) ≡ (are_names xs && are_names ys)
are_append [] ys = refl
are_append (x ∷ xs) ys = ap (λ (b : Bool). is_name x && b) (are_append xs ys) ∙ sym (and_assoc (is_name x) (are_names xs) (are_names ys))

pub all_fit_is : (b : List Stmt) → all_fit b ≡ are_names (names_bound b)
all_fit_is [] = refl
all_fit_is (s ∷ rest) = ap (λ (c : Bool). are_names (names_of s) && c) (all_fit_is rest) ∙ sym (are_append (names_of s) (names_bound rest))

names_at : (x : Stmt-F Stmt) (s : Stmt) → roll-Stmt x ≡ s → names_of s ≡ names_among (map-Stmt Stmt (List (List ℕ)) names_of x)
names_at x s is = ap names_of (sym is) ∙ names_roll x

pub fits_let : (name : List ℕ) (r : Rhs) → are_names (names_of (variant.Let name r)) ≡ is_name name
fits_let name r = ap are_names (names_at (Stmt-F.Let name r) (variant.Let name r) (rolls-Let name r)) ∙ and_true (is_name name)

pub fits_set : (name : List ℕ) (r : Rhs) → are_names (names_of (variant.Set name r)) ≡ true
fits_set name r = ap are_names (names_at (Stmt-F.Set name r) (variant.Set name r) (rolls-Set name r))

pub fits_do : (a : Ask) → are_names (names_of (variant.Do a)) ≡ true
fits_do a = ap are_names (names_at (Stmt-F.Do a) (variant.Do a) (rolls-Do a))

pub fits_put : (table : List ℕ) (key e : Expr) → are_names (names_of (variant.Put table key e)) ≡ true
fits_put table key e = ap are_names (names_at (Stmt-F.Put table key e) (variant.Put table key e) (rolls-Put table key e))

pub fits_delete : (table : List ℕ) (key : Expr) → are_names (names_of (variant.Delete table key)) ≡ true
fits_delete table key = ap are_names (names_at (Stmt-F.Delete table key) (variant.Delete table key) (rolls-Delete table key))

pub fits_if : (cond : Expr) (one : List Stmt) → are_names (names_of (variant.If cond one None)) ≡ all_fit one
fits_if cond one = ap are_names (names_at (Stmt-F.If cond one None) (variant.If cond one None) (rolls-If cond one None)) ∙ are_append (names_bound one) [] ∙ and_true (are_names (names_bound one)) ∙ sym (all_fit_is one)

pub fits_if_else : (cond : Expr) (one other : List Stmt) → are_names (names_of (variant.If cond one (Some other))) ≡ (all_fit one && all_fit other)
fits_if_else cond one other = ap are_names (names_at (Stmt-F.If cond one (Some other)) (variant.If cond one (Some other)) (rolls-If cond one (Some other))) ∙ are_append (names_bound one) (names_bound other) ∙ and_same (are_names (names_bound one)) (all_fit one) (are_names (names_bound other)) (all_fit other) (sym (all_fit_is one)) (sym (all_fit_is other))

pub fits_while : (cond : Expr) (b : List Stmt) → are_names (names_of (variant.While cond b)) ≡ all_fit b
fits_while cond b = ap are_names (names_at (Stmt-F.While cond b) (variant.While cond b) (rolls-While cond b)) ∙ sym (all_fit_is b)

pub fits_each : (name : List ℕ) (list : Expr) (b : List Stmt) → are_names (names_of (variant.Each name list b)) ≡ (is_name name && all_fit b)
fits_each name list b = ap are_names (names_at (Stmt-F.Each name list b) (variant.Each name list b) (rolls-Each name list b)) ∙ ap (λ (c : Bool). is_name name && c) (sym (all_fit_is b))

pub fits_try : (b : List Stmt) (name : List ℕ) (handler : List Stmt) → are_names (names_of (variant.Try b name handler)) ≡ (all_fit b && (is_name name && all_fit handler))
fits_try b name handler = ap are_names (names_at (Stmt-F.Try b name handler) (variant.Try b name handler) (rolls-Try b name handler)) ∙ are_append (names_bound b) (name ∷ names_bound handler)
    ∙ and_same (are_names (names_bound b)) (all_fit b) (is_name name && are_names (names_bound handler)) (is_name name && all_fit handler) (sym (all_fit_is b)) (ap (λ (c : Bool). is_name name && c) (sym (all_fit_is handler)))

pub fits_return : (e : Expr) → are_names (names_of (variant.Return e)) ≡ true
fits_return e = ap are_names (names_at (Stmt-F.Return e) (variant.Return e) (rolls-Return e))

pub fits_fail : (e : Expr) → are_names (names_of (variant.Fail e)) ≡ true
fits_fail e = ap are_names (names_at (Stmt-F.Fail e) (variant.Fail e) (rolls-Fail e))

-- the equations of all statements
pub ruleset names_at_each = (fits_let, fits_set, fits_do, fits_put, fits_delete, fits_if, fits_if_else, fits_while, fits_each, fits_try, fits_return, fits_fail)

pub item_is : (i : Item) → is_readable_item i ≡ ((is_name (name_of i) && (are_names (params_of i) && are_names (body_names i))) && nat_lt (length (params_of i)) 17)
item_is i = ap (λ (b : Bool). (is_name (name_of i) && b) && nat_lt (length (params_of i)) 17) (are_append (params_of i) (body_names i))

each_both : (p q : Item → Bool) (items : List Item) → each_passes (λ i. p i && q i) items ≡ true → (each_passes p items ≡ true) × (each_passes q items ≡ true)
each_both p q [] e = (refl, refl)
each_both p q (i ∷ items) e =
    let now : (p i && q i) ≡ true = and_first (p i && q i) (each_passes (λ i. p i && q i) items) e in
    let later = each_both p q items (and_second (p i && q i) (each_passes (λ i. p i && q i) items) e) in
    (both_true (p i) (each_passes p items) (and_first (p i) (q i) now) later.0, both_true (q i) (each_passes q items) (and_second (p i) (q i) now) later.1)

both_each : (p q : Item → Bool) (items : List Item) → each_passes p items ≡ true → each_passes q items ≡ true → each_passes (λ i. p i && q i) items ≡ true
both_each p q [] d e = refl
both_each p q (i ∷ items) d e =
    both_true (p i && q i) (each_passes (λ i. p i && q i) items)
    (both_true (p i) (q i) (and_first (p i) (each_passes p items) d) (and_first (q i) (each_passes q items) e))
    (both_each p q items (and_second (p i) (each_passes p items) d) (and_second (q i) (each_passes q items) e))

parts : (items : List Item) → each_passes is_readable_item items ≡ true → IsReadable items
parts items e =
    let both = each_both (λ i. are_names (names_in i)) (λ i. nat_lt (length (params_of i)) 17) items e in
    record { names = both.0; few_params = both.1 }

whole : (items : List Item) → IsReadable items → each_passes is_readable_item items ≡ true
whole items r = both_each (λ i. are_names (names_in i)) (λ i. nat_lt (length (params_of i)) 17) items r.names r.few_params

pub readable_is : (items : List Item) → (each_passes is_readable_item items ≡ true) ↔ IsReadable items
readable_is items = (parts items, whole items)
