use Rattle.std.proofs.Common.{◌≡◌, length, arith}
use Rattle.std.proofs.lemmas.Bool.{leb-true, le-leb}
use Rattle.r3_bytes.specs.Spelling.{count}
use Rattle.r3_bytes.proofs.Written.{count-items_of}
use Rattle.r3_entry.proofs.fields.are_args.Goals as goal

pub returns-in-List : goal.returns-in-List
returns-in-List c =
    let n : count c.in-List.values ≡ length c.items.result.now = rw (← c.items.ensures.items) (count-items_of c.items.result.now) in
    (λ yes. rw c.in-List.is (c.items.ensures.value, omega (arith, n, leb-true _ _ yes)), λ a. le-leb _ _ (omega (arith, n, (rw c.in-List.is at a).1)))
