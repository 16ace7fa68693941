-- The bytes of a spelling, piece by piece.
use Rattle.std.proofs.Common.{◌≡◌, ℕ, suc, ◌+◌, ◌<◌, List, [], ◌∷◌, ◌++◌, Bool, false, refl, sym, ap, ◌∙◌, append_assoc, length, drop, get_or, add-one}
use Rattle.std.specs.Prelude.{map}
use Rattle.std.proofs.Math.Seq.{drop-cons}
use Rattle.fn_tree.specs.declared.stmt.Stmt.{Stmt}
use Rattle.fn_tree.specs.declared.program.Item.{Item}
use Rattle.fn_grammar.specs.declared.lexeme.Lexeme.{Lexeme}
use Rattle.fn_spell.specs.Pieces.{Piece, a_word, a_name, a_number, a_text, expr_begins, expr_ends, word_of, spaced}
use Rattle.fn_spell.specs.Spelling.{comma_unless, separated, closed, stmt_pieces, item_pieces, program_pieces}

behind : (w : List ℕ) (xs ys : List Piece) → spaced (xs ++ ys) ≡ spaced xs ++ spaced ys → w ++ 32 ∷ spaced (xs ++ ys) ≡ (w ++ 32 ∷ spaced xs) ++ spaced ys
behind w xs ys e = ap (λ t. w ++ 32 ∷ t) e ∙ sym (append_assoc w (32 ∷ spaced xs) (spaced ys))

pub spaced_append : (xs ys : List Piece) → spaced (xs ++ ys) ≡ spaced xs ++ spaced ys
spaced_append [] ys = refl
spaced_append (expr_begins ∷ xs) ys = spaced_append xs ys
spaced_append (expr_ends ∷ xs) ys = spaced_append xs ys
spaced_append (a_word l ∷ xs) ys = behind (word_of (a_word l)) xs ys (spaced_append xs ys)
spaced_append (a_name w ∷ xs) ys = behind w xs ys (spaced_append xs ys)
spaced_append (a_number z ∷ xs) ys = behind (word_of (a_number z)) xs ys (spaced_append xs ys)
spaced_append (a_text w ∷ xs) ys = behind (word_of (a_text w)) xs ys (spaced_append xs ys)

-- what is written first, and then
pub joins : (o a b : List ℕ) (xs ys : List Piece) → a ≡ o ++ spaced xs → b ≡ a ++ spaced ys → b ≡ o ++ spaced (xs ++ ys)
joins o a b xs ys p q =
    q ∙ (ap (λ t. t ++ spaced ys) p ∙ (append_assoc o (spaced xs) (spaced ys) ∙ ap (λ t. o ++ t) (sym (spaced_append xs ys))))

-- one of several between commas, before the others
one_more : (first : Bool) (close : Lexeme) (x : List Piece) (xs : List (List Piece)) (o a b : List ℕ)
    → a ≡ o ++ spaced (comma_unless first) → b ≡ a ++ spaced x
    → b ++ spaced (separated false close xs) ≡ o ++ spaced (separated first close (x ∷ xs))
one_more first close x xs o a b p q =
    joins o b (b ++ spaced (separated false close xs)) (comma_unless first ++ x) (separated false close xs) (joins o a b (comma_unless first) x p q) refl
    ∙ ap (λ t. o ++ spaced t) (append_assoc (comma_unless first) x (separated false close xs))

drop_at : {X : Type 0} (xs : List X) (i : ℕ) (x : X) → i < length xs → x ≡ get_or xs i x → drop i xs ≡ x ∷ drop (i + 1) xs
drop_at xs i x lt is = drop-cons xs i x lt ∙ (ap (λ y. y ∷ drop (suc i) xs) (sym is) ∙ ap (λ j. x ∷ drop j xs) (sym (add-one i)))

-- a turn of a loop over several between commas, of a block and of a program
pub turn_of_list : {X : Type 0} (f : X → List Piece) (first : Bool) (close : Lexeme) (xs : List X) (i : ℕ) (x : X) (o a b : List ℕ)
    → i < length xs → x ≡ get_or xs i x → a ≡ o ++ spaced (comma_unless first) → b ≡ a ++ spaced (f x)
    → b ++ spaced (separated false close (map f (drop (i + 1) xs))) ≡ o ++ spaced (separated first close (map f (drop i xs)))
turn_of_list f first close xs i x o a b lt is p q =
    one_more first close (f x) (map f (drop (i + 1) xs)) o a b p q
    ∙ ap (λ ys. o ++ spaced (separated first close (map f ys))) (sym (drop_at xs i x lt is))

pub turn_of_block : (xs : List Stmt) (i : ℕ) (x : Stmt) (o b : List ℕ) → i < length xs → x ≡ get_or xs i x → b ≡ o ++ spaced (stmt_pieces x)
    → b ++ spaced (closed (map stmt_pieces (drop (i + 1) xs))) ≡ o ++ spaced (closed (map stmt_pieces (drop i xs)))
turn_of_block xs i x o b lt is p =
    joins o b (b ++ spaced (closed (map stmt_pieces (drop (i + 1) xs)))) (stmt_pieces x) (closed (map stmt_pieces (drop (i + 1) xs))) p refl
    ∙ ap (λ ys. o ++ spaced (closed (map stmt_pieces ys))) (sym (drop_at xs i x lt is))

pub turn_of_program : (xs : List Item) (i : ℕ) (x : Item) (o b : List ℕ) → i < length xs → x ≡ get_or xs i x → b ≡ o ++ spaced (item_pieces x)
    → b ++ spaced (program_pieces (drop (i + 1) xs)) ≡ o ++ spaced (program_pieces (drop i xs))
turn_of_program xs i x o b lt is p =
    joins o b (b ++ spaced (program_pieces (drop (i + 1) xs))) (item_pieces x) (program_pieces (drop (i + 1) xs)) p refl
    ∙ ap (λ ys. o ++ spaced (program_pieces ys)) (sym (drop_at xs i x lt is))
