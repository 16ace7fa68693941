-- Two values pass the test exactly where they are equal.
use Rattle.std.specs.Prelude.{◌≡◌, Bool, true, false, ◌&&◌, ◌==◌, refl}
use Rattle.std.proofs.Common.{ap, sym, ◌∙◌}
use Rattle.std.specs.Bool.{beq}
use Rattle.std.specs.Cmp.{IsEquivalence}
use Rattle.std.specs.Cmp.Lexicographic.{pointwise}
use Rattle.std.proofs.lemmas.Bool.Decides.{Decides-eqb, Decides-int_eq}
use Rattle.std.proofs.lemmas.Slice.Eq.{slice_eq-Decides}
use Rattle.r3_value.specs.declared.value.Val.{Val}
use Rattle.r3_value.specs.declared.value.Val.TheVariants.{Null, Bool as BoolOf, Int, Text, List as ListOf}
use Rattle.r3_value.specs.Value.{Value, null, boolean, integer, text, list, Items, no_items, item}
use Rattle.r3_value.specs.View.{value_of, val_of}
use Rattle.r3_value.specs.Same.{same, same_items}

beq-is : (a b : Bool) → beq a b ≡ true → a ≡ b
beq-is true true e = refl
beq-is true false e = absurd cc
beq-is false true e = absurd cc
beq-is false false e = refl

beq-refl : (a : Bool) → beq a a ≡ true
beq-refl true = refl
beq-refl false = refl

first : (a b : Bool) → (a && b) ≡ true → a ≡ true
first true b e = refl
first false b e = absurd cc

second : (a b : Bool) → (a && b) ≡ true → b ≡ true
second true b e = e
second false b e = absurd cc

both : (a b : Bool) → a ≡ true → b ≡ true → (a && b) ≡ true
both a b p q = rw (p, q) refl

mutual
  pub same-is : (v w : Value) → same v w ≡ true → v ≡ w
  same-is null null e = refl
  same-is (boolean a) (boolean b) e = ap boolean (beq-is a b e)
  same-is (integer a) (integer b) e = ap integer ((Decides-int_eq a b).0 e)
  same-is (text a) (text b) e = ap text ((slice_eq-Decides Decides-eqb a b (pointwise ◌==◌ a b) refl).0 e)
  same-is (list a) (list b) e = ap list (same_items-is a b e)
  same-is v w e = absurd cc

  pub same_items-is : (vs ws : Items) → same_items vs ws ≡ true → vs ≡ ws
  same_items-is no_items no_items e = refl
  same_items-is (item v vs) (item w ws) e =
      let head = same-is v w (first (same v w) (same_items vs ws) e) in
      let tail = same_items-is vs ws (second (same v w) (same_items vs ws) e) in
      λ i. item (head i) (tail i)
  same_items-is vs ws e = absurd cc

mutual
  pub same-refl : (v : Value) → same v v ≡ true
  same-refl null = refl
  same-refl (boolean a) = beq-refl a
  same-refl (integer a) = (Decides-int_eq a a).1 refl
  same-refl (text a) = (slice_eq-Decides Decides-eqb a a (pointwise ◌==◌ a a) refl).1 refl
  same-refl (list a) = same_items-refl a

  same_items-refl : (vs : Items) → same_items vs vs ≡ true
  same_items-refl no_items = refl
  same_items-refl (item v vs) = both _ _ (same-refl v) (same_items-refl vs)

abbrev pub same_val : Val → Val → Bool
same_val v w = same (value_of v) (value_of w)

val_back : (v : Val) → val_of (value_of v) ≡ v
val_back Null = refl
val_back (BoolOf b) = refl
val_back (Int z) = refl
val_back (Text s) = refl
val_back (ListOf vs) = refl

pub same_val-is : (v w : Val) → same_val v w ≡ true → v ≡ w
same_val-is v w e = sym (val_back v) ∙ ap val_of (same-is (value_of v) (value_of w) e) ∙ val_back w

alike : (a b : Bool) → (a ≡ true → b ≡ true) → (b ≡ true → a ≡ true) → a ≡ b
alike true true f g = refl
alike true false f g = sym (f refl)
alike false true f g = g refl
alike false false f g = refl

pub same_val-equivalence : IsEquivalence same_val
same_val-equivalence = record {
  refl = λ v. same-refl (value_of v);
  symm = λ v w. alike (same_val v w) (same_val w v) (λ e. rw (same_val-is v w e) (same-refl (value_of w))) (λ e. rw (same_val-is w v e) (same-refl (value_of v)));
  congr = λ v w u e. rw (same_val-is v w e) refl;
}

pub same_items-equivalence : IsEquivalence same_items
same_items-equivalence = record {
  refl = same_items-refl;
  symm = λ vs ws. alike (same_items vs ws) (same_items ws vs) (λ e. rw (same_items-is vs ws e) (same_items-refl ws)) (λ e. rw (same_items-is ws vs e) (same_items-refl vs));
  congr = λ vs ws us e. rw (same_items-is vs ws e) refl;
}

-- what a test that decides equality answers
pub same_val-answer : (v w : Val) (r : Bool) → (r ≡ true → v ≡ w) → (v ≡ w → r ≡ true) → r ≡ same_val v w
same_val-answer v w r f g = alike r (same_val v w) (λ e. rw (f e) (same-refl (value_of w))) (λ e. g (same_val-is v w e))

pub same_items-answer : (vs ws : Items) (r : Bool) → (r ≡ true → vs ≡ ws) → (vs ≡ ws → r ≡ true) → r ≡ same_items vs ws
same_items-answer vs ws r f g = alike r (same_items vs ws) (λ e. rw (f e) (same_items-refl ws)) (λ e. g (same_items-is vs ws e))
