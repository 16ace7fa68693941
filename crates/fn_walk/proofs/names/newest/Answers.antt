use Rattle.std.proofs.Common.{◌≡◌, true, length, Some, None, sym, subst, rules}
use Rattle.std.proofs.lemmas.List.{nil_from_length}
use Rattle.std.specs.Str.{bytes_eq}
use Rattle.fn_walk.specs.Newest.{IsNewest}
use Rattle.fn_walk.proofs.NameLemmas.{newest_here, newest_none}
use Rattle.fn_walk.proofs.names.newest.Goals as goal

pub returns-then-eq : goal.returns-then-eq
returns-then-eq c =
    let hit : bytes_eq c.in-Some.last.now.0 c.args.name.now ≡ true = search rules in
    c.loop-last.invariant (Some (length c.in-Some.earlier.now))
    (subst (λ l. IsNewest l c.args.name.now (Some (length c.in-Some.earlier.now))) (sym c.in-Some.ensures.cases.0) (newest_here c.in-Some.earlier.now c.in-Some.last.now c.args.name.now hit))

pub returns : goal.returns
returns c = c.loop-last.invariant None (subst (λ l. IsNewest l c.args.name.now None) (sym (nil_from_length c.loop-last.rest.now c.in_default.ensures.cases)) (newest_none c.args.name.now))
