-- What was said and asked over two parts of a call.
use Rattle.std.proofs.Common.{◌≡◌, ◌≤◌, List, [], ◌++◌, Option, Some, None, refl, sym, ap, ◌∙◌, arith, append-nil, length-append}
use Rattle.std.proofs.lemmas.List.{append_assoc}
use Rattle.r3_desk.specs.Asked as desk
use Rattle.r3_desk.specs.Disk.{told_len, told_push}
use Rattle.r3_model.specs.Language.{Text}
use Rattle.r3_top.specs.Answered.{Says}

pub push-none : (said : Option Text) → told_push said [] ≡ said
push-none None = refl
push-none (Some s) = ap (λ (x : Text). Some x) (append-nil s)

pub push-both : (said : Option Text) (a b : Text) → told_push (told_push said a) b ≡ told_push said (a ++ b)
push-both None a b = refl
push-both (Some s) a b = ap (λ (x : Text). Some x) (append_assoc s a b)

pub push-up : (told : Option Text) (more : Text) → told_len told ≤ told_len (told_push told more)
push-up None more = omega arith
push-up (Some t) more = omega (arith, length-append t more)

module _ {D : Type 0} (image : D → Option Text) (said : D → Option Text) (asked : D → Option (List desk.Call)) where
  pub says-none : (from : D) → Says image said asked from from []
  says-none from = record { told = sym (push-none (said from)); asks = refl; stored = refl }

  -- nothing else was done
  pub says-same : (from now : D) → said now ≡ said from → asked now ≡ asked from → image now ≡ image from → Says image said asked from now []
  says-same from now a b c = record { told = a ∙ sym (push-none (said from)); asks = b; stored = c }

  pub says-then : (from mid now : D) (a b : Text) → Says image said asked from mid a → Says image said asked mid now b → Says image said asked from now (a ++ b)
  says-then from mid now a b first second = record {
    told = second.told ∙ ap (λ (x : Option Text). told_push x b) first.told ∙ push-both (said from) a b;
    asks = second.asks ∙ first.asks;
    stored = second.stored ∙ first.stored;
  }
