-- Lines that are answered one after another, and where they end early.
use Rattle.std.proofs.Common.{◌≡◌, inl, inr, ⊎_elim, ℕ, suc, ◌+◌, ◌-◌, ◌<◌, ◌≤◌, List, [], ◌∷◌, ◌++◌, Option, refl, sym, ap, ◌∙◌, subst, arith, append-nil}
use Rattle.std.specs.Prelude.{Result, Ok, Err, IfOk, OnOk, OnErr}
use Rattle.std.proofs.lemmas.List.{append_assoc}
use Rattle.r3_entry.specs.declared.entry.Entry.{Entry}
use Rattle.r3_desk.specs.Asked as desk
use Rattle.r3_desk.specs.Crash.{Reach}
use Rattle.r3_model.specs.Language.{Language, Text}
use Rattle.r3_model.specs.Generator.{drawn, transfers}
use Rattle.r3_model.specs.Script.{Line}
use Rattle.r3_exec.specs.Runs.{language}
use Rattle.r3_exec.specs.declared.exec.Exec.{Exec}
use Rattle.r3_serve.specs.Served.{Quiet, Served, Stopped}
use Rattle.r3_gen.specs.Ran.{StoppedAmong, one_transfer}

pub on-ok : {T E : Type 0} (r : Result T E) (P Q : Type 0) → (P → Q) → OnOk r P → OnOk r Q
on-ok (Ok x) P Q f p = f p
on-ok (Err e) P Q f p = tt

pub on-err : {T E : Type 0} (r : Result T E) (P Q : Type 0) → (P → Q) → OnErr r P → OnErr r Q
on-err (Ok x) P Q f p = tt
on-err (Err e) P Q f p = f p

pub if-ok : {T E : Type 0} (r : Result T E) (A B : T → Type 0) → ((x : T) → A x → B x) → IfOk r A → IfOk r B
if-ok (Ok x) A B f a = f x a
if-ok (Err e) A B f a = tt

module _ {D : Type 0} (told_size : D → Option ℕ) (told_image : D → Option (List ℕ)) (may_leave : D → List ℕ → Type 0) (moment : D → ℕ) (reach : D → Reach) (said : D → Option (List ℕ)) (asked : D → Option (List desk.Call)) where
  abbrev pub IsServed : D → D → Exec → Text → List Entry → List Line → Type 0
  IsServed from now exec text h lines = Served told_size told_image may_leave moment reach said asked from now exec Quiet text h lines

  abbrev pub IsStopped : D → D → Language → Text → List Entry → List Line → Line → Type 0
  IsStopped from now P text h lines line = Stopped told_image moment reach said asked from now P Quiet text h lines line

  abbrev pub Stops : D → D → Exec → Text → List Entry → List Line → List Line → Type 0
  Stops from now exec text h first lines = StoppedAmong told_size told_image may_leave moment reach said asked from now exec text h first lines

  -- whatever was answered before, these lines are answered now
  abbrev pub Answers : D → D → Exec → Exec → List Line → Type 0
  Answers old new was exec lines = (from : D) (text : Text) (h : List Entry) (first : List Line) → IsServed from old was text h first → IsServed from new exec text h (first ++ lines)

  pub none-more : (from now : D) (exec : Exec) (text : Text) (h : List Entry) (lines : List Line) → IsServed from now exec text h lines → IsServed from now exec text h (lines ++ [])
  none-more from now exec text h lines s = subst (λ (ls : List Line). IsServed from now exec text h ls) (sym (append-nil lines)) s

  -- before the first of them
  pub stops-before : (from now : D) (exec : Exec) (text : Text) (h : List Entry) (first lines : List Line) → IsServed from now exec text h first → Stops from now exec text h first lines
  stops-before from now exec text h first lines s = record {
    done = [];
    later = lines;
    of_lines = refl;
    state = inl (none-more from now exec text h first s);
  }

  -- within the first of them
  pub stops-within : (from now : D) (exec : Exec) (P : Language) (text : Text) (h : List Entry) (first : List Line) (line : Line) (more : List Line)
      → language exec ≡ P → IsStopped from now P text h first line → Stops from now exec text h first (line ∷ more)
  stops-within from now exec P text h first line more is s = record {
    done = [];
    later = line ∷ more;
    of_lines = refl;
    state = inr (
      line,
      more,
      refl,
      subst (λ (ls : List Line). IsStopped from now (language exec) text h ls line) (sym (append-nil first))
          (subst (λ (L : Language). IsStopped from now L text h first line) (sym is) s),
    );
  }

  -- behind these
  pub stops-behind : (from now : D) (exec : Exec) (text : Text) (h : List Entry) (first done lines : List Line)
      → Stops from now exec text h (first ++ done) lines → Stops from now exec text h first (done ++ lines)
  stops-behind from now exec text h first done lines s =
      let same : first ++ done ++ s.done ≡ first ++ (done ++ s.done) = append_assoc first done s.done in
      record {
        done = done ++ s.done;
        later = s.later;
        of_lines = ap (λ (ls : List Line). done ++ ls) s.of_lines ∙ sym (append_assoc done s.done s.later);
        state = ⊎_elim
            (λ served. inl (subst (λ (ls : List Line). IsServed from now exec text h ls) same served))
            (λ t. inr (t.0, t.1, t.2, subst (λ (ls : List Line). IsStopped from now (language exec) text h ls t.0) same t.3))
            s.state;
      }

  -- before those
  pub stops-ahead : (from now : D) (exec : Exec) (text : Text) (h : List Entry) (first lines more : List Line)
      → Stops from now exec text h first lines → Stops from now exec text h first (lines ++ more)
  stops-ahead from now exec text h first lines more s = record {
    done = s.done;
    later = s.later ++ more;
    of_lines = ap (λ (ls : List Line). ls ++ more) s.of_lines ∙ append_assoc s.done s.later more;
    state = ⊎_elim
        (λ served. inl served)
        (λ t. inr (t.0, t.1 ++ more, ap (λ (ls : List Line). ls ++ more) t.2, t.3))
        s.state;
  }

  pub stops-same : (from now : D) (exec : Exec) (text : Text) (h : List Entry) (first lines all : List Line)
      → all ≡ lines → Stops from now exec text h first lines → Stops from now exec text h first all
  stops-same from now exec text h first lines all is s = subst (λ (ls : List Line). Stops from now exec text h first ls) (sym is) s

  pub answers-then : (a b c : D) (x y z : Exec) (lines more : List Line) → Answers a b x y lines → Answers b c y z more → Answers a c x z (lines ++ more)
  answers-then a b c x y z lines more f g = λ from text h first s.
      subst (λ (ls : List Line). IsServed from c z text h ls) (append_assoc first lines more)
      (g from text h (first ++ lines) (f from text h first s))

  pub answers-same : (a b : D) (x y : Exec) (lines all : List Line) → all ≡ lines → Answers a b x y lines → Answers a b x y all
  answers-same a b x y lines all is f = subst (λ (ls : List Line). Answers a b x y ls) (sym is) f

  -- one line, and then more
  pub answers-one : (from now : D) (exec : Exec) (text : Text) (h : List Entry) (first : List Line) (line one : Line) (more : List Line) → line ≡ one
      → IsServed from now exec text h ((first ++ line ∷ []) ++ more) → IsServed from now exec text h (first ++ (one ∷ more))
  answers-one from now exec text h first line one more is s =
      subst (λ (l : Line). IsServed from now exec text h (first ++ (l ∷ more))) is
      (subst (λ (ls : List Line). IsServed from now exec text h ls) (append_assoc first (line ∷ []) more) s)

  pub stops-one : (from now : D) (exec : Exec) (text : Text) (h : List Entry) (first : List Line) (line one : Line) (more : List Line) → line ≡ one
      → Stops from now exec text h (first ++ line ∷ []) more → Stops from now exec text h first (one ∷ more)
  stops-one from now exec text h first line one more is s =
      subst (λ (l : Line). Stops from now exec text h first (l ∷ more)) is (stops-behind from now exec text h first (line ∷ []) more s)

  pub stops-at : (from now : D) (exec : Exec) (P : Language) (text : Text) (h : List Entry) (first : List Line) (line one : Line) (more : List Line)
      → language exec ≡ P → line ≡ one → IsStopped from now P text h first line → Stops from now exec text h first (one ∷ more)
  stops-at from now exec P text h first line one more same is s =
      subst (λ (l : Line). Stops from now exec text h first (l ∷ more)) is (stops-within from now exec P text h first line more same s)

  -- behind all of them
  pub stops-last : (from now : D) (exec : Exec) (text : Text) (h : List Entry) (lines : List Line) → IsServed from now exec text h lines → Stops from now exec text h [] lines
  stops-last from now exec text h lines s = record { done = lines; later = []; of_lines = sym (append-nil lines); state = inl s }

  -- ---- the transfers

  -- so many of them were answered
  pub record Going (old now : D) (was exec : Exec) (number count i x : ℕ) : Type 0 where
    pub done : List Line
    pub left : transfers 0 count number ≡ done ++ transfers i (count - i) x
    pub serves : Answers old now was exec done
    pub within : i ≤ count

  pub going-first : (old : D) (was : Exec) (number count : ℕ) → Going old old was was number count 0 number
  going-first old was number count = record {
    done = [];
    left = ap (λ (n : ℕ). transfers 0 n number) (let e : count ≡ count - 0 = omega arith in e);
    serves = λ from text h first s. none-more from old was text h first s;
    within = omega arith;
  }

  pub unfold-next : (count i x : ℕ) → i < count
      → transfers i (count - i) x ≡ one_transfer i (count - i - 1) x ++ transfers (i + 1) (count - (i + 1)) (drawn (drawn (drawn x)))
  unfold-next count i x le =
      let more : count - i ≡ suc (count - i - 1) = omega (arith, le) in
      let less : count - i - 1 ≡ count - (i + 1) = omega arith in
      ap (λ (n : ℕ). transfers i n x) more
      ∙ ap (λ (n : ℕ). one_transfer i (count - i - 1) x ++ transfers (i + 1) n (drawn (drawn (drawn x)))) less

  pub going-on : (old now new : D) (was exec next : Exec) (number count i x z : ℕ) → i < count → z ≡ drawn (drawn (drawn x))
      → Going old now was exec number count i x → Answers now new exec next (one_transfer i (count - i - 1) x)
      → Going old new was next number count (i + 1) z
  going-on old now new was exec next number count i x z le is g f =
      let one : List Line = one_transfer i (count - i - 1) x in
      let w : ℕ = drawn (drawn (drawn x)) in
      subst (λ (k : ℕ). Going old new was next number count (i + 1) k) (sym is)
      (record {
        done = g.done ++ one;
        left = g.left ∙ ap (λ (ls : List Line). g.done ++ ls) (unfold-next count i x le) ∙ sym (append_assoc g.done one (transfers (i + 1) (count - (i + 1)) w));
        serves = answers-then old now new was exec next g.done one g.serves f;
        within = omega (arith, le);
      })

  pub going-last : (old now : D) (was exec : Exec) (number count i x : ℕ) → count ≤ i → Going old now was exec number count i x
      → Answers old now was exec (transfers 0 count number)
  going-last old now was exec number count i x ge g =
      let none : count - i ≡ 0 = omega (arith, ge) in
      let is : transfers 0 count number ≡ g.done =
      g.left ∙ ap (λ (n : ℕ). g.done ++ transfers i n x) none ∙ append-nil g.done in
      answers-same old now was exec g.done (transfers 0 count number) is g.serves

  -- the next one ends early
  pub going-stops : (old now new : D) (was exec next : Exec) (number count i x : ℕ) → i < count → Going old now was exec number count i x
      → ((from : D) (text : Text) (h : List Entry) (first : List Line) → IsServed from now exec text h first → Stops from new next text h first (one_transfer i (count - i - 1) x))
      → (from : D) (text : Text) (h : List Entry) (first : List Line) → IsServed from old was text h first → Stops from new next text h first (transfers 0 count number)
  going-stops old now new was exec next number count i x le g f = λ from text h first s.
      let one : List Line = one_transfer i (count - i - 1) x in
      let rest : List Line = transfers (i + 1) (count - (i + 1)) (drawn (drawn (drawn x))) in
      stops-same from new next text h first (g.done ++ (one ++ rest)) (transfers 0 count number)
      (g.left ∙ ap (λ (ls : List Line). g.done ++ ls) (unfold-next count i x le))
      (stops-behind from new next text h first g.done (one ++ rest)
      (stops-ahead from new next text h (first ++ g.done) one rest
      (f from text h (first ++ g.done) (g.serves from text h first s))))
