use Rattle.std.proofs.Common.{◌≡◌, map, drop, string_bytes}
use Rattle.r3_desk.specs.Shelves.{first_text}
use Rattle.r3_desk.proofs.mem_shelf.find.Given as goal

abbrev pub invariant-loop-name : goal.invariant-loop-name
invariant-loop-name l = first_text (map (λ t. (string_bytes t.0, t.1.items)) l.texts) l.path ≡ first_text (map (λ t. (string_bytes t.0, t.1.items)) (drop l.name-index l.texts)) l.path
