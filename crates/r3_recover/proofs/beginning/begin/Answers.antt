use Rattle.std.proofs.Common.{◌≡◌, Bool, true, Err, ◌≤◌, ℕ, List, [], ◌∷◌, length, Some, None, inr, refl, sym, ap, ◌∙◌, subst}
use Rattle.std.specs.Prelude.{IsTrue}
use Rattle.std.specs.Str.{is_utf8}
use Rattle.r3_entry.specs.declared.entry.Entry.{Entry}
use Rattle.r3_entry.specs.Bytes.{entry, size}
use Rattle.r3_entry.specs.Limits.{IsEntry}
use Rattle.r3_store.specs.Holds.{Holds, MayFollow}
use Rattle.r3_recover.proofs.FirstEntry.{first_entry, first-follows, first-limits, first-payload, none-full}
use Rattle.std.proofs.lemmas.Str.{is_utf8-from_IsUtf8}
use Rattle.r3_gate.specs.declared.fault.Limit.{Limit}
use Rattle.r3_store.specs.declared.fault.CommitFault.{CommitFault}
use Rattle.r3_store.specs.declared.fault.CommitFault.TheVariants.{Full}
use Rattle.r3_formed.specs.Past.{first_conflict}
use Rattle.r3_snap.specs.Conflicts.{keys_of}
use Rattle.r3_recover.proofs.beginning.begin.Goals as goal

limits-of : (text : List ℕ) → is_utf8 text ≡ true → length text ≤ 1048576 → IsEntry (first_entry text)
limits-of text utf8 short = first-limits text (subst (λ (b : Bool). IsTrue b) (sym utf8) refl) short

pub commit-requires-clause-limits : goal.commit-requires-clause-limits
commit-requires-clause-limits g c =
    let is = c.program_entry-entry.ensures [] refl ∙ ap (λ t. first_entry t) (c.from_string.ensures ∙ c.in-Ok.ensures.ok) in
    subst (λ e. IsEntry e) (sym is) (limits-of c.args.text.now (is_utf8-from_IsUtf8 _ c.utf8.text) c.requires.short)

pub commit-requires-clause-payload : goal.commit-requires-clause-payload
commit-requires-clause-payload g c =
    let is = c.program_entry-entry.ensures [] refl ∙ ap (λ t. first_entry t) (c.from_string.ensures ∙ c.in-Ok.ensures.ok) in
    subst (λ e. length (entry e) ≤ 8388608) (sym is) (first-payload c.args.text.now c.enters_light.ensures.payload (limits-of c.args.text.now (is_utf8-from_IsUtf8 _ c.utf8.text) c.requires.short))

pub commit-requires-clause-readable : goal.commit-requires-clause-readable
commit-requires-clause-readable g c =
    let is = c.program_entry-entry.ensures [] refl in
    inr (ap (λ (e : Entry). e.snap) is ∙ sym c.requires.opens.holds.stands.count)

pub unreachable-requires : goal.unreachable-requires
unreachable-requires g c =
    let is = c.program_entry-entry.ensures [] refl ∙ ap (λ t. first_entry t) (c.from_string.ensures ∙ c.in-Ok.ensures.ok) in
    let small = subst (λ e. length (entry e) ≤ 8388608) (sym is) (first-payload c.args.text.now c.enters_light.ensures.payload (limits-of c.args.text.now (is_utf8-from_IsUtf8 _ c.utf8.text) c.requires.short)) in
    none-full c.in-Err-Full.field-0-0 (λ (l : Limit). c.commit.result ≡ Err (Full l)) (length (entry c.program_entry-entry.result)) small
    (c.in-Err-Full.is ∙ ap (λ (f : CommitFault). Err f) c.in-Err-Full.field-0-is)
    (λ full. c.commit.ensures.entries [] c.requires.opens.holds.stands full)
    (λ full. c.commit.ensures.bytes [] 0 c.requires.opens.holds full)

pub unreachable-requires-in-Err-Conflict : goal.unreachable-requires-in-Err-Conflict
unreachable-requires-in-Err-Conflict g c =
    let is = c.program_entry-entry.ensures [] refl in
    let found = c.commit.ensures.conflict [] c.requires.opens.holds.stands c.in-Err-Conflict.field-0-0 (c.in-Err-Conflict.is ∙ ap (λ (f : CommitFault). Err f) c.in-Err-Conflict.field-0-is) in
    let wrong : None ≡ Some c.in-Err-Conflict.field-0-0 = subst (λ (e : Entry). first_conflict [] e.snap (keys_of e.writes) ≡ Some c.in-Err-Conflict.field-0-0) is found in
    absurd cc

pub returns-in-Ok-commit-clause-begun : goal.returns-in-Ok-commit-clause-begun
returns-in-Ok-commit-clause-begun g c =
    let is = c.program_entry-entry.ensures [] refl ∙ ap (λ t. first_entry t) (c.from_string.ensures ∙ c.in-Ok.ensures.ok) in
    let follows = subst (λ e. MayFollow [] e) (sym is) (c.may_follow.ensures [] (first_entry c.args.text.now) (first-follows c.args.text.now)) in
    subst (λ e. Holds g.D.Desk.size g.D.Desk.image g.D.Desk.may_leave c.commit.new.desk c.commit.new.self (e ∷ []) 0) is
    (c.in-Ok-commit.ensures.ok [] 0 c.requires.opens.holds follows).1

pub returns-in-Ok-commit-clause-crash : goal.returns-in-Ok-commit-clause-crash
returns-in-Ok-commit-clause-crash g c = c.commit.ensures.crash [] 0 c.requires.opens.holds

pub returns-in-Ok-commit-clause-reads : goal.returns-in-Ok-commit-clause-reads
returns-in-Ok-commit-clause-reads g c = c.commit.ensures.reads [] 0 c.requires.opens.holds

pub returns-in-Err-Disk-clause-crash : goal.returns-in-Err-Disk-clause-crash
returns-in-Err-Disk-clause-crash g c = c.commit.ensures.crash [] 0 c.requires.opens.holds

pub returns-in-Err-Disk-clause-reads : goal.returns-in-Err-Disk-clause-reads
returns-in-Err-Disk-clause-reads g c = c.commit.ensures.reads [] 0 c.requires.opens.holds
