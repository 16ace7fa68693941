-- What is made of parts is missing where the parts are.
use Rattle.std.proofs.Common.{◌≡◌, ℕ, List, ◌∷◌, ◌++◌, ap, sym, ◌∙◌, append_assoc, arith}
use Rattle.r3_value.specs.declared.value.Outcome.{Outcome}
use Rattle.r3_bytes.specs.Spelling.{number, string}
use Rattle.r3_bytes.specs.Field.{BeginsNone}
use Rattle.r3_rows.specs.declared.rows.Key.TheVariants.{User, Step}
use Rattle.r3_rows.specs.declared.rows.Status.{Status}
use Rattle.r3_rows.specs.declared.rows.StepKind.{StepKind}
use Rattle.r3_rows.specs.declared.rows.FlowRow.{FlowRow}
use Rattle.r3_rows.specs.declared.rows.StepRow.{StepRow}
use Rattle.r3_rows.specs.declared.rows.Read.TheVariants.{At, Range}
use Rattle.r3_entry.specs.declared.fields.Miss.{Miss}
use Rattle.r3_entry.specs.Bytes as spell
use Rattle.r3_entry.specs.Limits.{IsKey, IsFlow, IsStep, IsRead}
use Rattle.r3_entry.specs.Parse.{Misses, both, Both}
use Rattle.r3_entry.specs.Parts as part
use Rattle.r3_entry.proofs.Parts.{misses, second_none}
use Rattle.r3_entry.proofs.PartsUnique.{called_unique}

-- ---- keys

user_none : (bytes : List ℕ) → BeginsNone part.place part.IsPlace bytes → BeginsNone spell.key IsKey (0 ∷ bytes)
user_none bytes none (User t k) after is e = none (t, k) after is cc
user_none bytes none k after is e = absurd cc

pub user_misses : (bytes : List ℕ) (m : Miss) → Misses part.place part.IsPlace bytes m → Misses spell.key IsKey (0 ∷ bytes) m
user_misses bytes m = misses part.place part.IsPlace bytes spell.key IsKey (0 ∷ bytes) m (user_none bytes)

step_none : (bytes : List ℕ) → BeginsNone part.step part.IsStepOf bytes → BeginsNone spell.key IsKey (2 ∷ bytes)
step_none bytes none (Step i n) after is e = none (i, n) after is cc
step_none bytes none k after is e = absurd cc

pub step_misses : (bytes : List ℕ) (m : Miss) → Misses part.step part.IsStepOf bytes m → Misses spell.key IsKey (2 ∷ bytes) m
step_misses bytes m = misses part.step part.IsStepOf bytes spell.key IsKey (2 ∷ bytes) m (step_none bytes)

-- ---- flow rows

abbrev Fields : Type 0
Fields = part.Called × part.Descended

abbrev fields : FlowRow → Fields
fields r = (((r.function, r.args), r.outcome), (((r.queue, r.started), r.attempts), r.parent))

abbrev pub row_of : Status → part.Called → part.Descended → FlowRow
row_of s c p = record { status = s; function = c.0.0; args = c.0.1; outcome = c.1; queue = p.0.0.0; started = p.0.0.1; attempts = p.0.1; parent = p.1 }

are_fields : (r : FlowRow) → IsFlow r → Both part.IsCalled part.IsDescended (fields r)
are_fields r h =
    (((h.function, h.args), h.outcome), (((h.queue, record { above = h.started.0; below = h.started.1 }), record { above = omega arith; below = h.attempts }), h.parent))

is_flow : (s : Status) (c : part.Called) (p : part.Descended) → part.IsCalled c → part.IsDescended p → IsFlow (row_of s c p)
is_flow s c p g h = record {
  function = g.0.0;
  args = g.0.1;
  outcome = g.1;
  queue = h.0.0.0;
  started = (h.0.0.1.above, h.0.0.1.below);
  attempts = h.0.1.below;
  parent = h.1;
}

-- all of a row but its status
abbrev tail_of : FlowRow → List ℕ
tail_of r = part.called (fields r).0 ++ spell.option string r.queue ++ number r.started ++ number r.attempts ++ spell.option string r.parent

five : (a b c d e : List ℕ) → a ++ b ++ c ++ d ++ e ≡ a ++ (b ++ c ++ d ++ e)
five a b c d e =
    ap (λ (x : List ℕ). x ++ d ++ e) (append_assoc a b c) ∙ ap (λ (x : List ℕ). x ++ e) (append_assoc a (b ++ c) d) ∙ append_assoc a (b ++ c ++ d) e

in_two : (r : FlowRow) → tail_of r ≡ both part.called part.descended (fields r)
in_two r = five (part.called (fields r).0) (spell.option string r.queue) (number r.started) (number r.attempts) (spell.option string r.parent)

pub flow_found : (s : Status) (c : part.Called) (p : part.Descended) (bytes rest behind after : List ℕ) → bytes ≡ part.status s ++ rest → part.IsCalled c → rest ≡ part.called c ++ behind → part.IsDescended p → behind ≡ part.descended p ++ after
    → IsFlow (row_of s c p) × (bytes ≡ spell.flow_row (row_of s c p) ++ after)
flow_found s c p bytes rest behind after b g cs h ps =
    let whole : rest ≡ tail_of (row_of s c p) ++ after =
    cs ∙ ap (λ (x : List ℕ). part.called c ++ x) ps ∙ sym (append_assoc (part.called c) (part.descended p) after) ∙ ap (λ (x : List ℕ). x ++ after) (sym (in_two (row_of s c p))) in
    (is_flow s c p g h, b ∙ ap (λ (x : List ℕ). spell.status_code s ∷ x) whole)

flow_none : (s : Status) (rest : List ℕ) → BeginsNone (both part.called part.descended) (Both part.IsCalled part.IsDescended) rest → BeginsNone spell.flow_row IsFlow (spell.status_code s ∷ rest)
flow_none s rest none row after is e =
    let tail : rest ≡ tail_of row ++ after = cc in
    none (fields row) after (are_fields row is) (tail ∙ ap (λ (x : List ℕ). x ++ after) (in_two row))

pub called_misses : (s : Status) (bytes rest : List ℕ) (m : Miss) → bytes ≡ part.status s ++ rest → Misses part.called part.IsCalled rest m → Misses spell.flow_row IsFlow bytes m
called_misses s bytes rest m b h =
    rw b (misses part.called part.IsCalled rest spell.flow_row IsFlow (spell.status_code s ∷ rest) m
    (λ none. flow_none s rest (λ p after is e. none p.0 (part.descended p.1 ++ after) is.0 (e ∙ append_assoc (part.called p.0) (part.descended p.1) after))) h)

pub descended_misses : (s : Status) (c : part.Called) (bytes rest behind : List ℕ) (m : Miss) → bytes ≡ part.status s ++ rest → part.IsCalled c → rest ≡ part.called c ++ behind → Misses part.descended part.IsDescended behind m
    → Misses spell.flow_row IsFlow bytes m
descended_misses s c bytes rest behind m b g cs h =
    rw b (misses part.descended part.IsDescended behind spell.flow_row IsFlow (spell.status_code s ∷ rest) m
    (λ none. flow_none s rest (second_none part.called part.IsCalled part.descended part.IsDescended called_unique c rest behind g cs none)) h)

pub status_misses : (bytes : List ℕ) (m : Miss) → Misses part.status part.IsAny bytes m → Misses spell.flow_row IsFlow bytes m
status_misses bytes m =
    misses part.status part.IsAny bytes spell.flow_row IsFlow bytes m
    (λ none row after is e. none row.status (tail_of row ++ after) tt e)

-- ---- step rows

step_fields : StepRow → (List ℕ × StepKind) × Outcome
step_fields r = ((r.name, r.kind), r.outcome)

ended_same : (n : List ℕ) (k : StepKind) (o : Outcome) → part.ended ((n, k), o) ≡ string n ++ spell.kind_code k ∷ spell.outcome o
ended_same n k o = append_assoc (string n) (part.kind k) (spell.outcome o)

pub step_found : (n : List ℕ) (k : StepKind) (o : Outcome) (bytes after : List ℕ) → part.IsEnded ((n, k), o) → bytes ≡ part.ended ((n, k), o) ++ after
    → IsStep (record { name = n; kind = k; outcome = o }) × (bytes ≡ spell.step_row (record { name = n; kind = k; outcome = o }) ++ after)
step_found n k o bytes after is b = (record { name = is.0.0; outcome = is.1 }, b ∙ ap (λ (x : List ℕ). x ++ after) (ended_same n k o))

pub step_row_misses : (bytes : List ℕ) (m : Miss) → Misses part.ended part.IsEnded bytes m → Misses spell.step_row IsStep bytes m
step_row_misses bytes m =
    misses part.ended part.IsEnded bytes spell.step_row IsStep bytes m
    (λ none row after is e. none ((row.name, row.kind), row.outcome) after ((is.name, tt), is.outcome) (e ∙ ap (λ (x : List ℕ). x ++ after) (sym (ended_same row.name row.kind row.outcome))))

-- ---- read items

at_none : (bytes : List ℕ) → BeginsNone part.looked part.IsLooked bytes → BeginsNone spell.read IsRead (0 ∷ bytes)
at_none bytes none (At t k v) after is e =
    let tail : bytes ≡ part.looked ((t, k), v) ++ after = cc in
    none ((t, k), v) after ((is.0, is.1), is.2) tail
at_none bytes none (Range t lo hi ks) after is e = absurd cc

pub at_misses : (bytes : List ℕ) (m : Miss) → Misses part.looked part.IsLooked bytes m → Misses spell.read IsRead (0 ∷ bytes) m
at_misses bytes m = misses part.looked part.IsLooked bytes spell.read IsRead (0 ∷ bytes) m (at_none bytes)

range_none : (bytes : List ℕ) → BeginsNone part.scanned part.IsScanned bytes → BeginsNone spell.read IsRead (1 ∷ bytes)
range_none bytes none (At t k v) after is e = absurd cc
range_none bytes none (Range t lo hi ks) after is e =
    let tail : bytes ≡ part.scanned (((t, lo), hi), ks) ++ after = cc in
    none (((t, lo), hi), ks) after (((is.0, is.1), is.2), is.3) tail

pub range_misses : (bytes : List ℕ) (m : Miss) → Misses part.scanned part.IsScanned bytes m → Misses spell.read IsRead (1 ∷ bytes) m
range_misses bytes m = misses part.scanned part.IsScanned bytes spell.read IsRead (1 ∷ bytes) m (range_none bytes)
