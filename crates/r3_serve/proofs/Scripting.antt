-- A call in the midst of its script.
use Rattle.std.proofs.Common.{◌≡◌, inl, inr, ℕ, ◌+◌, ◌<◌, ◌≤◌, ◌^◌, Bool, true, false, List, [], ◌∷◌, ◌++◌, map, length, Option, Some, None, refl, sym, ap, subst, ◌∙◌, arith, append-nil, length-append, append_assoc}
use Rattle.std.proofs.lemmas.List.{map-append, take-append-le}
use Rattle.std.specs.Prelude.{take, Ok, Err}
use Rattle.std.specs.Io.KnownBytes.{Consumes, IsAtEnd}
use Rattle.std.proofs.KnownBytes.{Consumes-nil, Consumes-trans}
use Rattle.r3_script.specs.Lines.{lines_of, ended_lines}
use Rattle.r3_script.specs.declared.script.Script.{Script}
use Rattle.r3_script.specs.declared.fault.ScriptFault.{ScriptFault}
use Rattle.r3_script.specs.declared.fault.ScriptFault.TheVariants.{Source, TooLong}
use Rattle.r3_script.specs.Script.{Reads, Answers, EndsWith, has_ended, line_of}
use Rattle.r3_entry.specs.declared.entry.Entry.{Entry}
use Rattle.r3_desk.specs.Asked as desk
use Rattle.r3_desk.specs.Crash.{Reach}
use Rattle.r3_model.specs.Forms as forms
use Rattle.r3_model.specs.Functions.{language_of}
use Rattle.r3_model.specs.Language.{Language, Text}
use Rattle.r3_model.specs.Script.{Line}
use Rattle.r3_exec.specs.Runs.{language}
use Rattle.r3_exec.specs.declared.exec.Exec.{Exec}
use Rattle.r3_serve.specs.Served.{Loud, Served, Stopped}
use Rattle.r3_serve.specs.Scripted.{StoppedIn, script_lines, ended_script_lines}
use Rattle.r3_serve.specs.Failed.{ReplyFailed, ReplyFailedIn}

-- the machine's lines of some lines
abbrev pub read_all : List Text → List Line
read_all lines = map forms.line_of lines

-- ---- what a script is by what its source gave

whole_given : (script : Text) (left : Option Text) (given : Text) → Consumes (Some script) left given → IsAtEnd left → script ≡ given
whole_given script None given consumed end = absurd consumed
whole_given script (Some rest) given consumed end = consumed ∙ ap (λ (r : Text). given ++ r) end ∙ append-nil given

part_given : (script : Text) (left : Option Text) (given : Text) → Consumes (Some script) left given → 2 ^ 26 < length given → (2 ^ 26 < length script) × (take (2 ^ 26) script ≡ take (2 ^ 26) given)
part_given script None given consumed long = absurd consumed
part_given script (Some rest) given consumed long =
    let more : length script ≡ length given + length rest = ap (λ (t : Text). length t) consumed ∙ length-append given rest in (
      omega (arith, more, long),
      ap (λ (t : Text). take (2 ^ 26) t) consumed ∙ take-append-le (2 ^ 26) given rest (omega (arith, long)),
    )

nothing-behind : (given past more : Text) → given ≡ past ++ more → more ≡ [] → given ≡ past
nothing-behind given past more split none = split ∙ ap (λ (t : Text). past ++ t) none ∙ append-nil past

lines-behind : (script given past more rest : Text) (handed : List Text) → script ≡ given ++ rest → given ≡ past ++ more
    → ((r : Text) → lines_of (past ++ r) ≡ handed ++ lines_of r) → (later : List Text) × (lines_of script ≡ handed ++ later)
lines-behind script given past more rest handed is split whole = (
  lines_of (more ++ rest),
  ap (λ (t : Text). lines_of t) (is ∙ ap (λ (t : Text). t ++ rest) split ∙ append_assoc past more rest) ∙ whole (more ++ rest),
)

-- the lines that were handed out are the first of the script's
prefix-of : (reader : Script) (given : Text) (handed : List Text) (ended : Bool) (left : Option Text) (script : Text) (over : Bool) → over ≡ has_ended reader
    → Reads reader given handed → EndsWith (has_ended reader) ended left → Consumes (Some script) left given
    → (later : List Text) × (lines_of script ≡ handed ++ later)
prefix-of reader given handed ended left script true over reads ends consumed =
    let past : given ≡ reads.past = nothing-behind given reads.past _ reads.split (reads.over (sym over)) in
    let all : script ≡ reads.past = whole_given script left given consumed (ends (sym over)).1 ∙ past in
    ([], ap (λ (t : Text). lines_of t) all ∙ sym reads.lines ∙ sym (append-nil handed))
prefix-of reader given handed ended None script false over reads ends consumed = absurd consumed
prefix-of reader given handed ended (Some rest) script false over reads ends consumed =
    lines-behind script given reads.past _ rest handed consumed reads.split (reads.between (sym over)).whole

-- what was handed out before, and the line handed out now
abbrev with_line : List Text → Script → List Text
with_line handed reader = handed ++ line_of reader ∷ []

module _ {D : Type 0} (told_size : D → Option ℕ) (told_image : D → Option (List ℕ)) (may_leave : D → List ℕ → Type 0) (moment : D → ℕ) (reach : D → Reach) (said : D → Option (List ℕ)) (asked : D → Option (List desk.Call)) where
  abbrev ServedAt : D → D → Exec → Text → List Entry → List Line → Type 0
  ServedAt from now exec text h lines = Served told_size told_image may_leave moment reach said asked from now exec Loud text h lines

  abbrev StoppedAt : D → D → Exec → Text → List Entry → List Line → Line → Type 0
  StoppedAt from now exec text h lines line = Stopped told_image moment reach said asked from now (language exec) Loud text h lines line

  abbrev Stops : D → D → Exec → Text → List Entry → List Line → Text → Type 0
  Stops from now exec text h lines script = StoppedIn told_size told_image may_leave moment reach said asked from now exec text h lines script

  -- the source has given these bytes, these lines of them were handed out, and each of them was answered
  pub record Going (old now : D) (first exec : Exec) (left0 left : Option Text) (ended : Bool) (reader : Script) : Type 0 where
    pub given : Text
    pub handed : List Text
    pub reads : Reads reader given handed
    pub consumed : Consumes left0 left given
    pub ends : EndsWith (has_ended reader) ended left
    pub program : exec.program ≡ first.program
    pub serves : (from : D) (text : Text) (h : List Entry) (lines : List Line) → ServedAt from old first text h lines → ServedAt from now exec text h (lines ++ read_all handed)

  -- before the first line
  pub starts : (now : D) (exec : Exec) (left : Option Text) (ended : Bool) (reader : Script) → Reads reader [] [] → has_ended reader ≡ false
      → Going now now exec exec left left ended reader
  starts now exec left ended reader reads unended = record {
    given = [];
    handed = [];
    reads = reads;
    consumed = Consumes-nil left;
    ends = λ over. absurd (let e : true ≡ false = sym over ∙ unended in cc);
    program = refl;
    serves = λ from text h lines s. subst (λ (ls : List Line). ServedAt from now exec text h ls) (sym (append-nil lines)) s;
  }

  -- nothing was answered
  pub stops-first : (from now : D) (exec : Exec) (text : Text) (h : List Entry) (lines : List Line) (script : Text) → ServedAt from now exec text h lines → Stops from now exec text h lines script
  stops-first from now exec text h lines script s = record {
    done = [];
    later = script_lines script;
    of_script = refl;
    state = inl (subst (λ (ls : List Line). ServedAt from now exec text h ls) (sym (append-nil lines)) s);
  }

  module _ (old now : D) (first exec : Exec) (left0 left left' : Option Text) (ended ended' : Bool) (reader reader' : Script) where
    abbrev Went : Type 0
    Went = Going old now first exec left0 left ended reader

    -- no further line is answered
    pub stops-here : Went → (from : D) (text : Text) (h : List Entry) (lines : List Line) (script : Text) → ServedAt from old first text h lines → left0 ≡ Some script
        → Stops from now exec text h lines script
    stops-here going from text h lines script s is =
        let p = prefix-of reader going.given going.handed ended left script (has_ended reader) refl going.reads going.ends
        (subst (λ (l : Option Text). Consumes l left going.given) is going.consumed) in
        record {
          done = read_all going.handed;
          later = read_all p.0;
          of_script = ap (λ (ls : List Text). read_all ls) p.1 ∙ map-append forms.line_of going.handed p.0;
          state = inl (going.serves from text h lines s);
        }

    -- the script has ended
    pub no-more : (going : Went) (b : Bool) → b ≡ false → Answers left left' reader' going.given going.handed (Ok b) → EndsWith (has_ended reader') ended' left'
        → (from : D) (text : Text) (h : List Entry) (lines : List Line) (script : Text) → ServedAt from old first text h lines → left0 ≡ Some script
        → (length script ≤ 2 ^ 26) × ServedAt from now exec text h (lines ++ script_lines script)
    no-more going b off answers ends from text h lines script s is =
        let all : Answers left left' reader' going.given going.handed (Ok false) = subst (λ (x : Bool). Answers left left' reader' going.given going.handed (Ok x)) off answers in
        let given : Text = going.given ++ all.more in
        let consumed : Consumes (Some script) left' given = subst (λ (l : Option Text). Consumes l left' given) is (Consumes-trans left0 left left' going.given all.more going.consumed all.consumed) in
        let whole : script ≡ given = whole_given script left' given consumed (ends all.answered.over).1 in (
          omega (arith, ap (λ (t : Text). length t) whole, all.answered.short),
          subst (λ (ls : List Text). ServedAt from now exec text h (lines ++ read_all ls)) (all.answered.all ∙ ap (λ (t : Text). lines_of t) (sym whole)) (going.serves from text h lines s),
        )

    pub at-end : (going : Went) (b : Bool) → b ≡ false → Answers left left' reader' going.given going.handed (Ok b) → EndsWith (has_ended reader') ended' left' → ended' ≡ true
    at-end going b off answers ends =
        let all : Answers left left' reader' going.given going.handed (Ok false) = subst (λ (x : Bool). Answers left left' reader' going.given going.handed (Ok x)) off answers in
        (ends all.answered.over).0

    -- the source gives more than a script may have
    pub too-long : (going : Went) (f : ScriptFault) → f ≡ TooLong → Answers left left' reader' going.given going.handed (Err f)
        → (from : D) (text : Text) (h : List Entry) (lines : List Line) (script : Text) → ServedAt from old first text h lines → left0 ≡ Some script
        → (2 ^ 26 < length script) × ServedAt from now exec text h (lines ++ ended_script_lines (take (2 ^ 26) script))
    too-long going f is_long answers from text h lines script s is =
        let all : Answers left left' reader' going.given going.handed (Err TooLong) = subst (λ (x : ScriptFault). Answers left left' reader' going.given going.handed (Err x)) is_long answers in
        let given : Text = going.given ++ all.more in
        let consumed : Consumes (Some script) left' given = subst (λ (l : Option Text). Consumes l left' given) is (Consumes-trans left0 left left' going.given all.more going.consumed all.consumed) in
        let part = part_given script left' given consumed all.answered.0 in (
          part.0,
          subst (λ (ls : List Text). ServedAt from now exec text h (lines ++ read_all ls)) (all.answered.1 ∙ ap (λ (t : Text). ended_lines t) (sym part.1)) (going.serves from text h lines s),
        )

    -- the source has failed
    pub source-fails : (going : Went) (f : ScriptFault) → f ≡ Source → Answers left left' reader' going.given going.handed (Err f)
        → (from : D) (text : Text) (h : List Entry) (lines : List Line) → ServedAt from old first text h lines
        → (given : Text) × Consumes left0 left' given × ServedAt from now exec text h (lines ++ ended_script_lines given)
    source-fails going f is_source answers from text h lines s =
        let all : Answers left left' reader' going.given going.handed (Err Source) = subst (λ (x : ScriptFault). Answers left left' reader' going.given going.handed (Err x)) is_source answers in (
          going.given ++ all.more,
          Consumes-trans left0 left left' going.given all.more going.consumed all.consumed,
          subst (λ (ls : List Text). ServedAt from now exec text h (lines ++ read_all ls)) all.answered (going.serves from text h lines s),
        )

    -- the next line was handed out, and answered
    pub one-more : (going : Went) (b : Bool) → b ≡ true → Answers left left' reader' going.given going.handed (Ok b) → EndsWith (has_ended reader') ended' left'
        → (line : Text) → line ≡ line_of reader' → (new : D) (exec' : Exec) → exec'.program ≡ exec.program
        → ((from : D) (text : Text) (h : List Entry) (lines : List Line) → ServedAt from now exec text h lines → ServedAt from new exec' text h (lines ++ forms.line_of line ∷ []))
        → Going old new first exec' left0 left' ended' reader'
    one-more going b on answers ends line is new exec' program serves =
        let all : Answers left left' reader' going.given going.handed (Ok true) = subst (λ (x : Bool). Answers left left' reader' going.given going.handed (Ok x)) on answers in
        record {
          given = going.given ++ all.more;
          handed = with_line going.handed reader';
          reads = all.answered.reads;
          consumed = Consumes-trans left0 left left' going.given all.more going.consumed all.consumed;
          ends = ends;
          program = program ∙ going.program;
          serves = λ from text h lines s.
              let behind : (lines ++ read_all going.handed) ++ forms.line_of line ∷ [] ≡ lines ++ read_all (with_line going.handed reader') =
              append_assoc lines (read_all going.handed) (forms.line_of line ∷ [])
              ∙ ap (λ (t : Text). lines ++ (read_all going.handed ++ forms.line_of t ∷ [])) is
              ∙ ap (λ (ls : List Line). lines ++ ls) (sym (map-append forms.line_of going.handed (line_of reader' ∷ []))) in
              subst (λ (ls : List Line). ServedAt from new exec' text h ls) behind (serves from text h (lines ++ read_all going.handed) (going.serves from text h lines s));
        }

    -- the next line was handed out, and its answer ended early
    pub stops-within : (going : Went) (b : Bool) → b ≡ true → Answers left left' reader' going.given going.handed (Ok b) → EndsWith (has_ended reader') ended' left'
        → (line : Text) → line ≡ line_of reader' → (new : D) (exec' : Exec) → exec'.program ≡ exec.program
        → ((from : D) (text : Text) (h : List Entry) (lines : List Line) → ServedAt from now exec text h lines → StoppedAt from new exec text h lines (forms.line_of line))
        → (from : D) (text : Text) (h : List Entry) (lines : List Line) (script : Text) → ServedAt from old first text h lines → left0 ≡ Some script
        → Stops from new exec' text h lines script
    stops-within going b on answers ends line is new exec' program stopped from text h lines script s at =
        let all : Answers left left' reader' going.given going.handed (Ok true) = subst (λ (x : Bool). Answers left left' reader' going.given going.handed (Ok x)) on answers in
        let given : Text = going.given ++ all.more in
        let consumed : Consumes (Some script) left' given = subst (λ (l : Option Text). Consumes l left' given) at (Consumes-trans left0 left left' going.given all.more going.consumed all.consumed) in
        let p = prefix-of reader' given (with_line going.handed reader') ended' left' script (has_ended reader') refl all.answered.reads ends consumed in
        let line_is : forms.line_of line ≡ forms.line_of (line_of reader') = ap (λ (t : Text). forms.line_of t) is in
        let same : language exec ≡ language exec' = ap (λ is. language_of is) (sym program) in
        record {
          done = read_all going.handed;
          later = forms.line_of line ∷ read_all p.0;
          of_script =
              ap (λ (ls : List Text). read_all ls) (p.1 ∙ append_assoc going.handed (line_of reader' ∷ []) p.0)
              ∙ map-append forms.line_of going.handed (line_of reader' ∷ p.0)
              ∙ ap (λ (l : Line). read_all going.handed ++ l ∷ read_all p.0) (sym line_is);
          state = inr (
            forms.line_of line,
            read_all p.0,
            refl,
            subst (λ (L : Language). Stopped told_image moment reach said asked from new L Loud text h (lines ++ read_all going.handed) (forms.line_of line)) same
                (stopped from text h (lines ++ read_all going.handed) (going.serves from text h lines s)),
          );
        }

    -- the next line was handed out, and its reply failed to be said
    pub fails-within : (going : Went) (b : Bool) → b ≡ true → Answers left left' reader' going.given going.handed (Ok b) → EndsWith (has_ended reader') ended' left'
        → (line : Text) → line ≡ line_of reader' → (new : D)
        → ((from : D) (text : Text) (h : List Entry) (lines : List Line) → ServedAt from now exec text h lines
        → ReplyFailed told_image may_leave moment reach said asked from new (language exec) text h lines (forms.line_of line))
        → (from : D) (text : Text) (h : List Entry) (lines : List Line) (script : Text) → ServedAt from old first text h lines → left0 ≡ Some script
        → ReplyFailedIn told_image may_leave moment reach said asked from new (language first) text h lines script
    fails-within going b on answers ends line is new failed from text h lines script s at =
        let all : Answers left left' reader' going.given going.handed (Ok true) = subst (λ (x : Bool). Answers left left' reader' going.given going.handed (Ok x)) on answers in
        let given : Text = going.given ++ all.more in
        let consumed : Consumes (Some script) left' given = subst (λ (l : Option Text). Consumes l left' given) at (Consumes-trans left0 left left' going.given all.more going.consumed all.consumed) in
        let p = prefix-of reader' given (with_line going.handed reader') ended' left' script (has_ended reader') refl all.answered.reads ends consumed in
        let line_is : forms.line_of line ≡ forms.line_of (line_of reader') = ap (λ (t : Text). forms.line_of t) is in
        let same : language exec ≡ language first = ap (λ is. language_of is) going.program in
        record {
          done = read_all going.handed;
          line = forms.line_of line;
          later = read_all p.0;
          of_script =
              ap (λ (ls : List Text). read_all ls) (p.1 ∙ append_assoc going.handed (line_of reader' ∷ []) p.0)
              ∙ map-append forms.line_of going.handed (line_of reader' ∷ p.0)
              ∙ ap (λ (l : Line). read_all going.handed ++ l ∷ read_all p.0) (sym line_is);
          failed = subst (λ (L : Language). ReplyFailed told_image may_leave moment reach said asked from new L text h (lines ++ read_all going.handed) (forms.line_of line)) same
              (failed from text h (lines ++ read_all going.handed) (going.serves from text h lines s));
        }
