-- What a desk tells of bytes said and calls asked.
use Rattle.std.proofs.Common.{◌≡◌, ℕ, ◌+◌, ◌≤◌, List, [], ◌++◌, map, length, Option, Some, None, refl, sym, ap, ◌∙◌, subst, arith, append-nil, length-append}
use Rattle.std.proofs.lemmas.List.{append_assoc, map-append, length-map}
use Rattle.r3_desk.specs.Asked as desk
use Rattle.r3_desk.specs.Disk.{told_len, told_push}
use Rattle.r3_model.specs.Language.{Text}
use Rattle.r3_model.specs.Event.{Call}
use Rattle.r3_exec.specs.Does.{told_of, told_after}

pub push-append : (o : Option Text) (s more : Text) → told_push (told_push o s) more ≡ told_push o (s ++ more)
push-append None s more = refl
push-append (Some k) s more = ap (λ (x : Text). Some x) (append_assoc k s more)

pub push-none : (o : Option Text) → o ≡ told_push o []
push-none None = refl
push-none (Some k) = ap (λ (x : Text). Some x) (sym (append-nil k))

push-more : (o : Option Text) (s : Text) → told_len o ≤ told_len (told_push o s)
push-more None s = omega arith
push-more (Some k) s = omega (arith, length-append k s)

push-most : (o : Option Text) (s : Text) → told_len (told_push o s) ≤ told_len o + length s
push-most None s = omega arith
push-most (Some k) s = omega (arith, length-append k s)

pub told-append : (o : Option (List desk.Call)) (ks more : List Call) → told_after (told_after o ks) more ≡ told_after o (ks ++ more)
told-append None ks more = refl
told-append (Some k) ks more = ap (λ (x : List desk.Call). Some x) (append_assoc k (map told_of ks) (map told_of more) ∙ ap (λ (x : List desk.Call). k ++ x) (sym (map-append told_of ks more)))

pub told-none : (o : Option (List desk.Call)) → o ≡ told_after o []
told-none None = refl
told-none (Some k) = ap (λ (x : List desk.Call). Some x) (sym (append-nil k))

told-more : (o : Option (List desk.Call)) (ks : List Call) → told_len o ≤ told_len (told_after o ks)
told-more None ks = omega arith
told-more (Some k) ks = omega (arith, length-append k (map told_of ks))

told-most : (o : Option (List desk.Call)) (ks : List Call) → told_len (told_after o ks) ≤ told_len o + length ks
told-most None ks = omega arith
told-most (Some k) ks = omega (arith, length-append k (map told_of ks), length-map ks told_of)

-- no fewer are told, and at most so many more
pub record Between {A : Type 0} (old new : Option (List A)) (most : ℕ) : Type 0 where
  pub no_fewer : told_len old ≤ told_len new
  pub few : told_len new ≤ told_len old + most

pub pushed : (old new : Option Text) (s : Text) → new ≡ told_push old s → Between old new (length s)
pushed old new s is = subst (λ (o : Option Text). Between old o (length s)) (sym is) (record { no_fewer = push-more old s; few = push-most old s })

pub asked-after : (old new : Option (List desk.Call)) (ks : List Call) → new ≡ told_after old ks → Between old new (length ks)
asked-after old new ks is = subst (λ (o : Option (List desk.Call)). Between old o (length ks)) (sym is) (record { no_fewer = told-more old ks; few = told-most old ks })

pub unmoved : {A : Type 0} (old new : Option (List A)) → new ≡ old → Between old new 0
unmoved old new same = subst (λ (o : Option (List _)). Between old o 0) (sym same) (record { no_fewer = omega arith; few = omega arith })
