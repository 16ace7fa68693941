-- An act is missing where its fields are.
use Rattle.std.proofs.Common.{◌≡◌, ◌≢◌, ℕ, ◌<◌, ◌^◌, List, [], ◌∷◌, ◌++◌, get_or, Result, Ok, Err, ap, sym, ◌∙◌, arith}
use Rattle.r3_bytes.specs.Spelling.{string}
use Rattle.r3_bytes.specs.Field.{BeginsNone}
use Rattle.r3_entry.specs.declared.entry.Act.{Act}
use Rattle.r3_entry.specs.declared.entry.Act.TheVariants as acts
use Rattle.r3_entry.specs.declared.fields.Miss.{Miss}
use Rattle.r3_entry.specs.declared.fields.Miss.TheVariants as miss
use Rattle.r3_entry.specs.Bytes as spell
use Rattle.r3_entry.specs.Limits.{IsSized, IsId, IsAnyText, IsAct}
use Rattle.r3_entry.specs.Parse.{Misses, Parses, Both}
use Rattle.r3_entry.specs.Parts as part
use Rattle.r3_entry.proofs.EntryUnique.{act_tag, first_byte}
use Rattle.r3_entry.proofs.Parts.{misses}

tag_is : (x : Act) (t : ℕ) (rest after : List ℕ) → t ∷ rest ≡ spell.act x ++ after → act_tag x ≡ t
tag_is x t rest after e = sym (first_byte x after) ∙ ap (λ (l : List ℕ). get_or l 0 0) (sym e)

program_none : (rest : List ℕ) → BeginsNone string (IsSized 0 1048576) rest → BeginsNone spell.act IsAct (1 ∷ rest)
program_none rest none (acts.Program t) after is e = let tail : rest ≡ string t ++ after = cc in none t after is tail
program_none rest none x after is e = absurd (omega (arith, tag_is x 1 rest after e))

pub program_misses : (rest : List ℕ) (m : Miss) → Misses string (IsSized 0 1048576) rest m → Misses spell.act IsAct (1 ∷ rest) m
program_misses rest m = misses string (IsSized 0 1048576) rest spell.act IsAct (1 ∷ rest) m (program_none rest)

txn_none : (rest : List ℕ) → BeginsNone part.step_args part.AreStepArgs rest → BeginsNone spell.act IsAct (6 ∷ rest)
txn_none rest none (acts.Txn i n v) after is e =
    let tail : rest ≡ part.step_args ((i, n), v) ++ after = cc in none ((i, n), v) after is tail
txn_none rest none x after is e = absurd (omega (arith, tag_is x 6 rest after e))

pub txn_misses : (rest : List ℕ) (m : Miss) → Misses part.step_args part.AreStepArgs rest m → Misses spell.act IsAct (6 ∷ rest) m
txn_misses rest m = misses part.step_args part.AreStepArgs rest spell.act IsAct (6 ∷ rest) m (txn_none rest)

outside_none : (rest : List ℕ) → BeginsNone part.step_args part.AreStepArgs rest → BeginsNone spell.act IsAct (7 ∷ rest)
outside_none rest none (acts.Outside i n v) after is e =
    let tail : rest ≡ part.step_args ((i, n), v) ++ after = cc in none ((i, n), v) after is tail
outside_none rest none x after is e = absurd (omega (arith, tag_is x 7 rest after e))

pub outside_misses : (rest : List ℕ) (m : Miss) → Misses part.step_args part.AreStepArgs rest m → Misses spell.act IsAct (7 ∷ rest) m
outside_misses rest m = misses part.step_args part.AreStepArgs rest spell.act IsAct (7 ∷ rest) m (outside_none rest)

child_none : (rest : List ℕ) → BeginsNone part.step_text (Both part.IsStepOf IsId) rest → BeginsNone spell.act IsAct (8 ∷ rest)
child_none rest none (acts.Child i n c) after is e =
    let tail : rest ≡ part.step_text ((i, n), c) ++ after = cc in none ((i, n), c) after is tail
child_none rest none x after is e = absurd (omega (arith, tag_is x 8 rest after e))

pub child_misses : (rest : List ℕ) (m : Miss) → Misses part.step_text (Both part.IsStepOf IsId) rest m → Misses spell.act IsAct (8 ∷ rest) m
child_misses rest m = misses part.step_text (Both part.IsStepOf IsId) rest spell.act IsAct (8 ∷ rest) m (child_none rest)

await_none : (rest : List ℕ) → BeginsNone part.step_text (Both part.IsStepOf IsAnyText) rest → BeginsNone spell.act IsAct (9 ∷ rest)
await_none rest none (acts.Await i n t) after is e =
    let tail : rest ≡ part.step_text ((i, n), t) ++ after = cc in none ((i, n), t) after is tail
await_none rest none x after is e = absurd (omega (arith, tag_is x 9 rest after e))

pub await_misses : (rest : List ℕ) (m : Miss) → Misses part.step_text (Both part.IsStepOf IsAnyText) rest m → Misses spell.act IsAct (9 ∷ rest) m
await_misses rest m = misses part.step_text (Both part.IsStepOf IsAnyText) rest spell.act IsAct (9 ∷ rest) m (await_none rest)

fork_none : (rest : List ℕ) → BeginsNone part.forked part.IsForked rest → BeginsNone spell.act IsAct (13 ∷ rest)
fork_none rest none (acts.Fork i f b) after is e =
    let tail : rest ≡ part.forked ((i, f), b) ++ after = cc in
    none ((i, f), b) after ((is.0, is.1), record { above = omega arith; below = is.2 }) tail
fork_none rest none x after is e = absurd (omega (arith, tag_is x 13 rest after e))

pub fork_misses : (rest : List ℕ) (m : Miss) → Misses part.forked part.IsForked rest m → Misses spell.act IsAct (13 ∷ rest) m
fork_misses rest m = misses part.forked part.IsForked rest spell.act IsAct (13 ∷ rest) m (fork_none rest)

-- ---- acts with an ID and nothing else

id_none : (t : ℕ) (rest : List ℕ) → BeginsNone string IsId rest → BeginsNone spell.act part.IsOfId (t ∷ rest)
id_none t rest none (acts.Start i) after is e = let tail : rest ≡ string i ++ after = cc in none i after is tail
id_none t rest none (acts.Enqueue i) after is e = let tail : rest ≡ string i ++ after = cc in none i after is tail
id_none t rest none (acts.Dequeue i) after is e = let tail : rest ≡ string i ++ after = cc in none i after is tail
id_none t rest none (acts.Finish i) after is e = let tail : rest ≡ string i ++ after = cc in none i after is tail
id_none t rest none (acts.Cancel i) after is e = let tail : rest ≡ string i ++ after = cc in none i after is tail
id_none t rest none (acts.Resume i) after is e = let tail : rest ≡ string i ++ after = cc in none i after is tail
id_none t rest none (acts.Recover i) after is e = let tail : rest ≡ string i ++ after = cc in none i after is tail
id_none t rest none x after is e = absurd is

pub id_misses : (t : ℕ) (rest : List ℕ) (m : Miss) → Misses string IsId rest m → Misses spell.act part.IsOfId (t ∷ rest) m
id_misses t rest m = misses string IsId rest spell.act part.IsOfId (t ∷ rest) m (id_none t rest)

-- no act with an ID alone has such a first byte
abbrev pub IsNoIdTag : ℕ → Type 0
IsNoIdTag t = (t ≢ 3) × (t ≢ 4) × (t ≢ 5) × (t ≢ 10) × (t ≢ 11) × (t ≢ 12) × (t ≢ 14)

pub no_id_act : (t : ℕ) (rest : List ℕ) → IsNoIdTag t → BeginsNone spell.act part.IsOfId (t ∷ rest)
no_id_act t rest no_tag (acts.Start i) after is e = no_tag.0 (sym (tag_is (acts.Start i) t rest after e))
no_id_act t rest no_tag (acts.Enqueue i) after is e = no_tag.1 (sym (tag_is (acts.Enqueue i) t rest after e))
no_id_act t rest no_tag (acts.Dequeue i) after is e = no_tag.2 (sym (tag_is (acts.Dequeue i) t rest after e))
no_id_act t rest no_tag (acts.Finish i) after is e = no_tag.3 (sym (tag_is (acts.Finish i) t rest after e))
no_id_act t rest no_tag (acts.Cancel i) after is e = no_tag.4 (sym (tag_is (acts.Cancel i) t rest after e))
no_id_act t rest no_tag (acts.Resume i) after is e = no_tag.5 (sym (tag_is (acts.Resume i) t rest after e))
no_id_act t rest no_tag (acts.Recover i) after is e = no_tag.6 (sym (tag_is (acts.Recover i) t rest after e))
no_id_act t rest no_tag x after is e = absurd is

-- only acts with an ID alone have such a first byte
abbrev pub IsOtherTag : ℕ → Type 0
IsOtherTag t = (t ≢ 1) × (t ≢ 2) × (t ≢ 6) × (t ≢ 7) × (t ≢ 8) × (t ≢ 9) × (t ≢ 13)

of_id : (x : Act) (t : ℕ) (rest after : List ℕ) → IsOtherTag t → IsAct x → t ∷ rest ≡ spell.act x ++ after → part.IsOfId x
of_id (acts.Program s) t rest after other is e = absurd (other.0 (sym (tag_is (acts.Program s) t rest after e)))
of_id acts.Load t rest after other is e = absurd (other.1 (sym (tag_is acts.Load t rest after e)))
of_id (acts.Txn i n v) t rest after other is e = absurd (other.2 (sym (tag_is (acts.Txn i n v) t rest after e)))
of_id (acts.Outside i n v) t rest after other is e = absurd (other.3 (sym (tag_is (acts.Outside i n v) t rest after e)))
of_id (acts.Child i n c) t rest after other is e = absurd (other.4 (sym (tag_is (acts.Child i n c) t rest after e)))
of_id (acts.Await i n s) t rest after other is e = absurd (other.5 (sym (tag_is (acts.Await i n s) t rest after e)))
of_id (acts.Fork i f b) t rest after other is e = absurd (other.6 (sym (tag_is (acts.Fork i f b) t rest after e)))
of_id (acts.Start i) t rest after other is e = is
of_id (acts.Enqueue i) t rest after other is e = is
of_id (acts.Dequeue i) t rest after other is e = is
of_id (acts.Finish i) t rest after other is e = is
of_id (acts.Cancel i) t rest after other is e = is
of_id (acts.Resume i) t rest after other is e = is
of_id (acts.Recover i) t rest after other is e = is

is_act : (x : Act) → part.IsOfId x → IsAct x
is_act (acts.Start i) is = is
is_act (acts.Enqueue i) is = is
is_act (acts.Dequeue i) is = is
is_act (acts.Finish i) is = is
is_act (acts.Cancel i) is = is
is_act (acts.Resume i) is = is
is_act (acts.Recover i) is = is
is_act x is = absurd is

pub other_act : (t : ℕ) (bytes rest after : List ℕ) (result : Result Act Miss) → bytes ≡ t ∷ rest → IsOtherTag t → Parses spell.act part.IsOfId (t ∷ rest) after result → Parses spell.act IsAct bytes after result
other_act t bytes rest after (Ok a) b other h = (is_act a h.0, b ∙ h.1)
other_act t bytes rest after (Err miss.Absent) b other h = λ x tail is e. h x tail (of_id x t rest tail other is (sym b ∙ e)) (sym b ∙ e)
other_act t bytes rest after (Err miss.Memory) b other h = tt

-- no byte, no act
first_none : (bytes : List ℕ) → BeginsNone (λ (t : ℕ). t ∷ []) (λ t. t < 2 ^ 8) bytes → BeginsNone spell.act IsAct bytes
first_none bytes none (acts.Program s) after is e = none 1 (string s ++ after) (omega arith) e
first_none bytes none acts.Load after is e = none 2 after (omega arith) e
first_none bytes none (acts.Start i) after is e = none 3 (string i ++ after) (omega arith) e
first_none bytes none (acts.Enqueue i) after is e = none 4 (string i ++ after) (omega arith) e
first_none bytes none (acts.Dequeue i) after is e = none 5 (string i ++ after) (omega arith) e
first_none bytes none (acts.Txn i n v) after is e = none 6 (part.step_args ((i, n), v) ++ after) (omega arith) e
first_none bytes none (acts.Outside i n v) after is e = none 7 (part.step_args ((i, n), v) ++ after) (omega arith) e
first_none bytes none (acts.Child i n c) after is e = none 8 (part.step_text ((i, n), c) ++ after) (omega arith) e
first_none bytes none (acts.Await i n s) after is e = none 9 (part.step_text ((i, n), s) ++ after) (omega arith) e
first_none bytes none (acts.Finish i) after is e = none 10 (string i ++ after) (omega arith) e
first_none bytes none (acts.Cancel i) after is e = none 11 (string i ++ after) (omega arith) e
first_none bytes none (acts.Resume i) after is e = none 12 (string i ++ after) (omega arith) e
first_none bytes none (acts.Fork i f b) after is e = none 13 (part.forked ((i, f), b) ++ after) (omega arith) e
first_none bytes none (acts.Recover i) after is e = none 14 (string i ++ after) (omega arith) e

pub first_misses : (bytes : List ℕ) (m : Miss) → Misses (λ (t : ℕ). t ∷ []) (λ t. t < 2 ^ 8) bytes m → Misses spell.act IsAct bytes m
first_misses bytes m = misses (λ (t : ℕ). t ∷ []) (λ t. t < 2 ^ 8) bytes spell.act IsAct bytes m (first_none bytes)
