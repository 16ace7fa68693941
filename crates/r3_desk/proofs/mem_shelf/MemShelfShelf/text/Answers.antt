use Rattle.std.proofs.Common.{rules, refl, sym, inr, ◌≡◌, List, ℕ, Some, None, Option, map, string_bytes}
use Rattle.r3_desk.proofs.Shelved.{whole_told, long_told}
use Rattle.r3_desk.specs.Shelves.{first_text}
use Rattle.r3_desk.proofs.mem_shelf.MemShelfShelf.text.Goals as goal

pub returns-in-None-clause-exact : goal.returns-in-None-clause-exact
returns-in-None-clause-exact c =
    let absent : None ≡ first_text (map (λ t. (string_bytes t.0, t.1.items)) c.args.self.now.texts.items) c.args.path.now = search rules in
    (inr (sym absent), search rules)

pub returns-in-Some-clause-whole : goal.returns-in-Some-clause-whole
returns-in-Some-clause-whole c =
    let told : Some c.in-Some.text.now ≡ first_text (map (λ t. (string_bytes t.0, t.1.items)) c.args.self.now.texts.items) c.args.path.now = search rules in
    whole_told (λ v. v.items) c.copy_within.result _ c.in-Some.text.now (sym told) c.copy_within.ensures.whole

pub returns-in-Some-clause-too_long : goal.returns-in-Some-clause-too_long
returns-in-Some-clause-too_long c =
    let told : Some c.in-Some.text.now ≡ first_text (map (λ t. (string_bytes t.0, t.1.items)) c.args.self.now.texts.items) c.args.path.now = search rules in
    long_told c.copy_within.result _ c.in-Some.text.now c.args.limit (sym told) c.copy_within.ensures.within c.copy_within.ensures.too_long
