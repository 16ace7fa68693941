use Rattle.std.proofs.Common.{◌≡◌, ◌++◌, [], List, ℕ, ap, ◌∙◌, sym, subst}
use Rattle.r3_entry.specs.Formed.{Follows}
use Rattle.r3_formed.proofs.Capacity.{room_of}
use Rattle.r3_formed.proofs.loading.add_entry.Goals as goal

pub admit-requires-clause-room : goal.admit-requires-clause-room
admit-requires-clause-room c = room_of c.args.chains.now c.in-Ok.entry c.args.payload.now c.requires.room c.in-Ok.ensures.entry.1 c.requires.bytes

pub returns-in-Ok-false-clause-unformed : goal.returns-in-Ok-false-clause-unformed
returns-in-Ok-false-clause-unformed c = λ h same stand _ e is limits follows.
    let one : c.in-Ok.entry ≡ e = (c.one_spelling.ensures c.in-Ok.entry e [] [] c.in-Ok.ensures.entry.0 limits (ap (λ (x : List ℕ). x ++ []) (sym c.in-Ok.ensures.entry.1 ∙ is))).0 in
    let fits = (c.in-Ok-false.ensures.follows h same stand).1 (subst (Follows h) (sym one) follows) in
    absurd cc
