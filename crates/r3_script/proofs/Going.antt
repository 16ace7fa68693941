-- A script on its way to its next line.
use Rattle.std.proofs.Common.{◌≡◌, ℕ, ◌+◌, ◌^◌, ◌<◌, ◌≤◌, Bool, true, false, cond, List, [], ◌∷◌, ◌++◌, length, take, Option, Some, None, Result, Ok, Err, option_to_list, refl, sym, ap, subst, ◌∙◌, append_assoc, length-append, rules, arith}
use Rattle.std.proofs.lemmas.List.{append-nil, take-append-le}
use Rattle.std.specs.Io.KnownBytes.{Consumes, Keeps, IsAtEnd}
use Rattle.std.proofs.Common.{take_all}
use Rattle.r3_script.specs.declared.chunk.Chunk.{Chunk}
use Rattle.r3_script.specs.declared.piece.Piece.{Piece}
use Rattle.r3_script.specs.declared.script.Script.{Script}
use Rattle.r3_script.specs.declared.fault.ScriptFault.{ScriptFault}
use Rattle.r3_script.specs.declared.fault.ScriptFault.TheVariants.{Source, TooLong, Memory}
use Rattle.r3_script.specs.Lines.{Text, is_line, lines_of, ended_lines, Passed}
use Rattle.r3_script.specs.Chunk.{unread, Moves}
use Rattle.r3_script.specs.Piece.{Cuts, Completes, Pushed, Partial}
use Rattle.r3_script.specs.Script.{Reads, HasLine, HasAll, Answered, Answers, line_of}
use Rattle.r3_script.proofs.Cutting.{partial_none, kept, ended_here, lines_here, passed_lines}

pub consumes_none : (l : Option (List ℕ)) → Consumes l l []
consumes_none None = search rules
consumes_none (Some xs) = refl

pub consumes_kept : (a b : Option (List ℕ)) → Keeps a b → Consumes a b []
consumes_kept None b k = search rules
consumes_kept (Some xs) None k = k
consumes_kept (Some xs) (Some ys) k = sym k

pub consumes_then : (a b c : Option (List ℕ)) (x y : List ℕ) → Consumes a b x → Consumes b c y → Consumes a c (x ++ y)
consumes_then None b c x y p q = search rules
consumes_then (Some l) None c x y p q = absurd p
consumes_then (Some l) (Some m) None x y p q = q
consumes_then (Some l) (Some m) (Some n) x y p q = p ∙ ap (λ (v : List ℕ). x ++ v) q ∙ sym (append_assoc x y n)

-- What the source gave in this call, behind what it gave before: the bytes that were passed, and those that are unread.
pub record Since (left_before left_now : Option (List ℕ)) (chunk : Chunk) (piece : Piece) (given : Text) (handed : List Text) : Type 0 where
  pub more : Text
  pub consumed : Consumes left_before left_now more
  pub bytes : Text
  pub split : given ++ more ≡ bytes ++ unread chunk
  pub cuts : Cuts piece bytes handed

-- the same when the next byte was taken, or none
pub record Taken (left_before left_now : Option (List ℕ)) (chunk : Chunk) (piece : Piece) (given : Text) (handed : List Text) (byte : Option ℕ) : Type 0 where
  pub more : Text
  pub consumed : Consumes left_before left_now more
  pub bytes : Text
  pub split : given ++ more ≡ bytes ++ (option_to_list byte ++ unread chunk)
  pub cuts : Cuts piece bytes handed
  pub none : byte ≡ None → unread chunk ≡ []

-- a call begins
pub since_start : (left : Option (List ℕ)) (s : Script) (piece : Piece) (given : Text) (handed : List Text) → s.ended ≡ false → piece.bytes.items ≡ [] → piece.passed ≡ s.piece.passed → Reads s given handed → Since left left s.chunk piece given handed
since_start left s piece given handed e i p r = record {
  more = [];
  consumed = consumes_none left;
  bytes = r.past;
  split = append-nil given ∙ r.split;
  cuts = record {
    past = r.past;
    split = sym (append-nil r.past) ∙ ap (λ (x : Text). r.past ++ x) (sym i);
    count = r.count ∙ sym p;
    passed = r.between e;
    partial = subst Partial (sym i) partial_none;
  };
}

pub taken : (l0 l1 l2 : Option (List ℕ)) (old new : Chunk) (piece : Piece) (given : Text) (handed : List Text) (byte : Option ℕ) → Since l0 l1 old piece given handed → Moves l1 l2 (unread old) (unread new) byte → Taken l0 l2 new piece given handed byte
taken l0 l1 l2 old new piece given handed byte s m = record {
  more = s.more ++ m.more;
  consumed = consumes_then l0 l1 l2 s.more m.more s.consumed m.consumed;
  bytes = s.bytes;
  split =
      sym (append_assoc given s.more m.more)
      ∙ ap (λ (x : Text). x ++ m.more) s.split
      ∙ append_assoc s.bytes (unread old) m.more
      ∙ ap (λ (x : Text). s.bytes ++ x) m.order;
  cuts = s.cuts;
  none = m.none;
}

-- the byte goes to the piece
behind : (given more bytes rest : Text) (b : ℕ) → given ++ more ≡ bytes ++ (b ∷ rest) → given ++ more ≡ (bytes ++ b ∷ []) ++ rest
behind given more bytes rest b e = e ∙ sym (append_assoc bytes (b ∷ []) rest)

pub since_more : (l0 l1 : Option (List ℕ)) (chunk : Chunk) (p q : Piece) (given : Text) (handed : List Text) (b : ℕ) → (t : Taken l0 l1 chunk p given handed (Some b)) → Cuts q (t.bytes ++ b ∷ []) handed → Since l0 l1 chunk q given handed
since_more l0 l1 chunk p q given handed b t c = record {
  more = t.more;
  consumed = t.consumed;
  bytes = t.bytes ++ b ∷ [];
  split = behind given t.more t.bytes (unread chunk) b t.split;
  cuts = c;
}

-- the byte ends a line, or passes the limit
has_line : (s : Script) (given more bytes : Text) (handed : List Text) (b : ℕ) → s.ended ≡ false → given ++ more ≡ bytes ++ (b ∷ unread s.chunk) → Completes s.piece (bytes ++ b ∷ []) handed → HasLine s (given ++ more) handed
has_line s given more bytes handed b e split c = record {
  reads = record {
    past = bytes ++ b ∷ [];
    split = behind given more bytes (unread s.chunk) b split;
    count = c.count;
    lines = passed_lines (bytes ++ b ∷ []) (handed ++ line_of s ∷ []) c.passed;
    between = λ _. c.passed;
    over = λ t. absurd (cc (t, e));
  };
  line = c.line;
}

take_front : (xs ys : Text) → take (length xs) (xs ++ ys) ≡ xs
take_front xs ys = take-append-le (length xs) xs ys (omega arith) ∙ take_all (length xs) xs (omega arith)

past_limit : (given bytes rest : Text) (b : ℕ) (handed : List Text) → given ≡ bytes ++ (b ∷ rest) → length bytes ≡ 2 ^ 26 → handed ≡ ended_lines bytes → (2 ^ 26 < length given) × (handed ≡ ended_lines (take (2 ^ 26) given))
past_limit given bytes rest b handed e n h =
    let more : length given ≡ length bytes + length (b ∷ rest) = ap length e ∙ length-append bytes (b ∷ rest) in
    let some : 0 < length (b ∷ rest) = search rules in
    let front : take (length bytes) (bytes ++ (b ∷ rest)) ≡ bytes = take_front bytes (b ∷ rest) in
    let is : take (2 ^ 26) given ≡ bytes = ap (λ (k : ℕ). take k given) (sym n) ∙ ap (λ (x : Text). take (length bytes) x) e ∙ front in
    (omega (arith, more, some, n), h ∙ ap ended_lines (sym is))

pub answered_push : (s : Script) (given more bytes : Text) (handed : List Text) (b : ℕ) (result : Result Bool ScriptFault) → s.ended ≡ false → given ++ more ≡ bytes ++ (b ∷ unread s.chunk) → (result ≡ Ok false → ⊥) → (result ≡ Err Source → ⊥) → Pushed s.piece bytes b handed result → Answered s (given ++ more) handed result
answered_push s given more bytes handed b (Ok true) e split n m p = has_line s given more bytes handed b e split p
answered_push s given more bytes handed b (Ok false) e split n m p = absurd (n refl)
answered_push s given more bytes handed b (Err Source) e split n m p = absurd (m refl)
answered_push s given more bytes handed b (Err TooLong) e split n m p = past_limit (given ++ more) bytes (unread s.chunk) b handed split p.0 p.1
answered_push s given more bytes handed b (Err Memory) e split n m p = p

pub answers_push : (l0 l1 : Option (List ℕ)) (s : Script) (p : Piece) (given : Text) (handed : List Text) (b : ℕ) (result : Result Bool ScriptFault) → s.ended ≡ false → (t : Taken l0 l1 s.chunk p given handed (Some b)) → (result ≡ Ok false → ⊥) → (result ≡ Err Source → ⊥) → Pushed s.piece t.bytes b handed result → Answers l0 l1 s given handed result
answers_push l0 l1 s p given handed b result e t n m h = record {
  more = t.more;
  consumed = t.consumed;
  answered = answered_push s given t.more t.bytes handed b result e t.split n m h;
}

-- at the end, or where the source fails, all bytes that were given were passed
all_passed : (l0 l1 : Option (List ℕ)) (chunk : Chunk) (piece : Piece) (given : Text) (handed : List Text) → (t : Taken l0 l1 chunk piece given handed None) → given ++ t.more ≡ t.bytes
all_passed l0 l1 chunk piece given handed t = t.split ∙ ap (λ (x : Text). t.bytes ++ x) (t.none refl) ∙ append-nil t.bytes

pub answers_fault : (l0 l1 : Option (List ℕ)) (s : Script) (given : Text) (handed : List Text) → Taken l0 l1 s.chunk s.piece given handed None → Answers l0 l1 s given handed (Err Source)
answers_fault l0 l1 s given handed t = record {
  more = t.more;
  consumed = t.consumed;
  answered = ended_here t.cuts.past s.piece.bytes.items handed t.cuts.passed t.cuts.partial ∙ ap ended_lines (sym (all_passed l0 l1 s.chunk s.piece given handed t ∙ t.cuts.split));
}

last_line : (v : Bool) (s : Script) (given : Text) (handed : List Text) → v ≡ is_line s.piece.bytes.items → s.ended ≡ true → unread s.chunk ≡ [] → length given ≡ s.piece.passed → s.piece.passed ≤ 2 ^ 26 → handed ++ cond v (line_of s ∷ []) [] ≡ lines_of given → Answered s given handed (Ok v)
last_line true s given handed l e u n le h = record {
  reads = record {
    past = given;
    split = sym (append-nil given) ∙ ap (λ (x : Text). given ++ x) (sym u);
    count = n;
    lines = h;
    between = λ f. absurd (cc (f, e));
    over = λ _. u;
  };
  line = sym l;
}
last_line false s given handed l e u n le h = record {
  reads = record {
    past = given;
    split = sym (append-nil given) ∙ ap (λ (x : Text). given ++ x) (sym u);
    count = n;
    lines = sym (append-nil handed) ∙ h;
    between = λ f. absurd (cc (f, e));
    over = λ _. u;
  };
  all = sym (append-nil handed) ∙ h;
  short = omega (arith, n, le);
  over = e;
}

pub answers_end : (l0 l1 : Option (List ℕ)) (s : Script) (given : Text) (handed : List Text) (v : Bool) → v ≡ is_line s.piece.bytes.items → s.ended ≡ true → s.piece.passed ≤ 2 ^ 26 → Taken l0 l1 s.chunk s.piece given handed None → Answers l0 l1 s given handed (Ok v)
answers_end l0 l1 s given handed v l e le t =
    let all : given ++ t.more ≡ t.bytes = all_passed l0 l1 s.chunk s.piece given handed t in
    let here : handed ++ kept s.piece.bytes.items ≡ lines_of (given ++ t.more) = lines_here t.cuts.past s.piece.bytes.items handed t.cuts.passed t.cuts.partial ∙ ap lines_of (sym (all ∙ t.cuts.split)) in
    record {
      more = t.more;
      consumed = t.consumed;
      answered = last_line v s (given ++ t.more) handed l e (t.none refl) (ap length all ∙ t.cuts.count) le
          (ap (λ (w : Bool). handed ++ cond w (line_of s ∷ []) []) l ∙ here);
    }

-- after the end nothing is read
pub answers_over : (left : Option (List ℕ)) (s : Script) (given : Text) (handed : List Text) → s.ended ≡ true → s.piece.passed ≤ 2 ^ 26 → Reads s given handed → Answers left left s given handed (Ok false)
answers_over left s given handed e le r =
    let all : given ≡ r.past = r.split ∙ ap (λ (x : Text). r.past ++ x) (r.over e) ∙ append-nil r.past in
    let is : given ++ [] ≡ r.past = append-nil given ∙ all in
    record {
      more = [];
      consumed = consumes_none left;
      answered = record {
        reads = record {
          past = r.past;
          split = append-nil given ∙ r.split;
          count = r.count;
          lines = r.lines;
          between = r.between;
          over = r.over;
        };
        all = r.lines ∙ ap lines_of (sym is);
        short = omega (arith, ap length is, r.count, le);
        over = e;
      };
    }

pub taken_is : (l0 l1 : Option (List ℕ)) (chunk : Chunk) (piece : Piece) (given : Text) (handed : List Text) (byte is : Option ℕ) → byte ≡ is → Taken l0 l1 chunk piece given handed byte → Taken l0 l1 chunk piece given handed is
taken_is l0 l1 chunk piece given handed byte is e t =
    let P : Option ℕ → Type 0 = λ x. Taken l0 l1 chunk piece given handed x in
    subst P e t

pub answers_is : (l0 l1 : Option (List ℕ)) (s : Script) (given : Text) (handed : List Text) (result is : Result Bool ScriptFault) → result ≡ is → Answers l0 l1 s given handed is → Answers l0 l1 s given handed result
answers_is l0 l1 s given handed result is e a =
    let P : Result Bool ScriptFault → Type 0 = λ x. Answers l0 l1 s given handed x in
    subst P (sym e) a

pub pushed_is : (piece : Piece) (bytes : Text) (b : ℕ) (handed : List Text) (result is : Result Bool ScriptFault) → result ≡ is → Pushed piece bytes b handed result → Pushed piece bytes b handed is
pushed_is piece bytes b handed result is e p =
    let P : Result Bool ScriptFault → Type 0 = λ x. Pushed piece bytes b handed x in
    subst P e p
