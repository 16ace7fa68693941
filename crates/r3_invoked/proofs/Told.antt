-- How much more a desk tells.
use Rattle.std.proofs.Common.{◌≡◌, ◌+◌, ◌≤◌, List, map, length, Option, Some, None, sym, subst, arith, length-append}
use Rattle.std.proofs.lemmas.List.{length-map}
use Rattle.r3_desk.specs.Asked as desk
use Rattle.r3_desk.specs.Disk.{told_len, told_push}
use Rattle.r3_model.specs.Language.{Text}
use Rattle.r3_model.specs.Event.{Call}
use Rattle.r3_exec.specs.Does.{told_of, told_after}

push-most : (o : Option Text) (s : Text) → told_len (told_push o s) ≤ told_len o + length s
push-most None s = omega arith
push-most (Some k) s = omega (arith, length-append k s)

-- where these bytes were said
pub said-most : (old new : Option Text) (s : Text) → new ≡ told_push old s → told_len new ≤ told_len old + length s
said-most old new s is = subst (λ (o : Option Text). told_len o ≤ told_len old + length s) (sym is) (push-most old s)

told-most : (o : Option (List desk.Call)) (ks : List Call) → told_len (told_after o ks) ≤ told_len o + length ks
told-most None ks = omega arith
told-most (Some k) ks = omega (arith, length-append k (map told_of ks), length-map ks told_of)

-- where these calls were asked
pub asked-most : (old new : Option (List desk.Call)) (ks : List Call) → new ≡ told_after old ks → told_len new ≤ told_len old + length ks
asked-most old new ks is = subst (λ (o : Option (List desk.Call)). told_len o ≤ told_len old + length ks) (sym is) (told-most old ks)
