-- A log is read as one history, or has one first entry that isn't formed.
use Rattle.std.proofs.Common.{◌≡◌, ◌⊎◌, ℕ, ◌<◌, ◌≤◌, ◌^◌, List, [], ◌∷◌, ◌++◌, length, map, Option, refl, sym, ap, subst, ◌∙◌, inl, inr, ⊎_elim, arith, append-nil, append_assoc, length-append, true, false, nat_lt, Ok, Err, Result, take, drop}
use Rattle.std.specs.Prelude.{All, Contains}
use Rattle.std.specs.Option.{ForSome}
use Rattle.std.specs.List.{AllByRecursion}
use Rattle.std.proofs.lemmas.List.{length-map}
use Rattle.std.proofs.lemmas.Bool.Decides.{nat_tests}
use Rattle.std.proofs.lemmas.List.Elements.{All-cons}
use Rattle.std.proofs.Math.Seq.{drop-length, take-length}
use Rattle.r3_gate.specs.Log.{IsLog, IsPayload, Fits, IsForeign, IsDamaged}
use Rattle.r3_gate.specs.Gate.{Tracks}
use Rattle.r3_gate.specs.Fault as gate
use Rattle.r3_gate.specs.declared.fault.GateFault.{GateFault}
use Rattle.r3_gate.specs.declared.fault.GateFault.TheVariants as gates
use Rattle.r3_entry.specs.declared.entry.Entry.{Entry}
use Rattle.r3_entry.specs.declared.entry.Act.{Act}
use Rattle.r3_entry.specs.declared.entry.Act.TheVariants as acts
use Rattle.r3_entry.specs.Bytes.{entry, act, magic}
use Rattle.r3_entry.specs.Limits.{IsEntry}
use Rattle.r3_entry.specs.Formed.{IsFormed}
use Rattle.r3_entry.specs.Image.{IsHistoryOf}
use Rattle.r3_formed.specs.Load.{payloads, AreUnformed}
use Rattle.r3_formed.specs.Past.{StandFor}
use Rattle.r3_formed.specs.Answers.{text_of}
use Rattle.r3_store.specs.Opened.{IsUnformed, IsStopped, IsCaused, open_fault, formed_fault, Reads, Opens}
use Rattle.r3_formed.specs.declared.loading.Loaded.{Loaded}
use Rattle.r3_store.specs.declared.store.Store.{Store}
use Rattle.r3_store.specs.declared.fault.OpenFault.TheVariants as faults
use Rattle.r3_formed.specs.declared.fault.LoadFault.{LoadFault}
use Rattle.r3_formed.specs.declared.fault.LoadFault.TheVariants as loads
use Rattle.r3_store.proofs.Images.{same_records, size_is}

act_long : (a : Act) → 1 ≤ length (act a)
act_long (acts.Program text) = omega arith
act_long acts.Load = omega arith
act_long (acts.Start id) = omega arith
act_long (acts.Enqueue id) = omega arith
act_long (acts.Dequeue id) = omega arith
act_long (acts.Txn id n args) = omega arith
act_long (acts.Outside id n args) = omega arith
act_long (acts.Child id n child) = omega arith
act_long (acts.Await id n on) = omega arith
act_long (acts.Finish id) = omega arith
act_long (acts.Cancel id) = omega arith
act_long (acts.Resume id) = omega arith
act_long (acts.Fork id from below) = omega arith
act_long (acts.Recover id) = omega arith

longer : (a b : List ℕ) → 1 ≤ length a → 1 ≤ length (a ++ b)
longer a b h = omega (arith, length-append a b)

pub entry_long : (e : Entry) → 1 ≤ length (entry e)
entry_long e = longer _ _ (longer _ _ (longer _ _ (act_long e.act)))

none_formed : IsFormed []
none_formed = record { entries = tt; few = omega arith; small = omega arith; payloads = tt; limits = tt }

all_payloads : (h : List Entry) → AllByRecursion (λ e. length (entry e) ≤ 2 ^ 23) h → All IsPayload (payloads h)
all_payloads [] a = λ k d lt. absurd (omega (arith, lt))
all_payloads (e ∷ es) a = All-cons IsPayload (entry e) (payloads es) (entry_long e, a.0) (all_payloads es a.1)

pub fits_of : (h : List Entry) → IsFormed h → Fits (payloads h)
fits_of h formed = record {
  each = all_payloads h formed.payloads;
  entries = omega (arith, formed.few, length-map h entry);
  bytes = omega (arith, formed.small, size_is h);
}

none_log : (i : List ℕ) (h : List Entry) → length i ≤ 9 → h ≡ [] → IsLog i (payloads h)
none_log i h short none = subst (λ (x : List Entry). IsLog i (payloads x)) (sym none) (record { fits = fits_of [] none_formed; bytes = inl (short, refl) })

pub log_of_history : (i : List ℕ) (h : List Entry) → IsHistoryOf h i → IsLog i (payloads h)
log_of_history i h is =
    ⊎_elim (λ s. none_log i h s.0 s.1)
    (λ l. record {
      fits = fits_of h l.1;
      bytes = inr (record {
        gate = l.2.0;
        rest = l.2.1;
        shut = l.2.2;
        is = l.2.3 ∙ ap (λ (xs : List ℕ). (magic ++ xs) ++ l.2.0 ∷ l.2.1) (sym (same_records h));
      });
    }) is

abbrev pub OneSpelling : Type 0
OneSpelling = (d e : Entry) (a b : List ℕ) → IsEntry d → IsEntry e → entry d ++ a ≡ entry e ++ b → (d ≡ e) × (a ≡ b)

abbrev pub Beginnings : Type 0
Beginnings = (h k : List Entry) → IsFormed (h ++ k) → IsFormed h

abbrev first_of : List (List ℕ) → List ℕ
first_of [] = []
first_of (x ∷ xs) = x

abbrev rest_of : List (List ℕ) → List (List ℕ)
rest_of [] = []
rest_of (x ∷ xs) = xs

-- an entry behind those of a history, where another history of the same payloads is longer
record Behind (before g : List Entry) (p : List ℕ) : Type 0 where
  pub next : Entry
  pub tail : List Entry
  pub is : g ≡ before ++ next ∷ tail
  pub bytes : p ≡ entry next

behind : OneSpelling → (before g : List Entry) (p : List ℕ) (r rest : List (List ℕ)) → AllByRecursion IsEntry before → AllByRecursion IsEntry g
    → payloads g ++ rest ≡ payloads before ++ p ∷ r → length before < length g → Behind before g p
behind law before [] p r rest lb lg is lt = absurd (omega (arith, lt))
behind law [] (x ∷ xs) p r rest lb lg is lt = record { next = x; tail = xs; is = refl; bytes = sym (ap first_of is) }
behind law (b ∷ bs) (x ∷ xs) p r rest lb lg is lt =
    let heads : x ≡ b = (law x b [] [] lg.0 lb.0 (ap (λ (l : List ℕ). l ++ []) (ap first_of is))).0 in
    let more : Behind bs xs p = behind law bs xs p r rest lb.1 lg.1 (ap rest_of is) (omega (arith, lt)) in
    record {
      next = more.next;
      tail = more.tail;
      is = ap (λ (y : Entry). y ∷ xs) heads ∙ ap (λ (ys : List Entry). b ∷ ys) more.is;
      bytes = more.bytes;
    }

-- no formed history goes past the first entry that isn't formed
pub stops : OneSpelling → Beginnings → (all : List (List ℕ)) (k : ℕ) (g : List Entry) (rest : List (List ℕ)) (u : AreUnformed all k) → IsFormed g → all ≡ payloads g ++ rest → length u.before < length g → ⊥
stops law begins all k g rest u formed is lt =
    let b : Behind u.before g u.payload = behind law u.before g u.payload u.rest rest u.formed.limits formed.limits (sym is ∙ u.is) lt in
    u.unformed b.next b.bytes (begins (u.before ++ b.next ∷ []) b.tail (subst IsFormed (b.is ∙ sym (append_assoc u.before (b.next ∷ []) b.tail)) formed))

pub not_both : OneSpelling → Beginnings → (all : List (List ℕ)) (k : ℕ) (h : List Entry) → AreUnformed all k → IsFormed h → all ≡ payloads h → ⊥
not_both law begins all k h u formed is =
    stops law begins all k h [] u formed (is ∙ sym (append-nil (payloads h)))
    (omega (arith, ap length is, ap length u.is, length-append (payloads u.before) (u.payload ∷ u.rest), length-map h entry, length-map u.before entry))

pub one_unformed : OneSpelling → Beginnings → (all : List (List ℕ)) (j k : ℕ) → AreUnformed all j → AreUnformed all k → j ≡ k
one_unformed law begins all j k u v =
    elim (nat_lt (length u.before) (length v.before)) as (λ b. nat_lt (length u.before) (length v.before) ≡ b → j ≡ k) [
      | true ↦ λ less. let lt : length u.before < length v.before = grind (arith, nat_tests) in absurd (stops law begins all j v.before (v.payload ∷ v.rest) u v.formed v.is lt)
      | false ↦ λ less. elim (nat_lt (length v.before) (length u.before)) as (λ b. nat_lt (length v.before) (length u.before) ≡ b → j ≡ k) [
        | true ↦ λ more. let gt : length v.before < length u.before = grind (arith, nat_tests) in absurd (stops law begins all k u.before (u.payload ∷ u.rest) v u.formed u.is gt)
        | false ↦ λ more.
            let le : length v.before ≤ length u.before = grind (arith, nat_tests) in
            let ge : length u.before ≤ length v.before = grind (arith, nat_tests) in
            omega (arith, le, ge, u.number, v.number)
      ] refl
    ] refl

pub same_payloads : OneSpelling → (h g : List Entry) → AllByRecursion IsEntry h → AllByRecursion IsEntry g → payloads h ≡ payloads g → h ≡ g
same_payloads law [] [] lh lg is = refl
same_payloads law [] (y ∷ ys) lh lg is = absurd (omega (arith, ap length is))
same_payloads law (x ∷ xs) [] lh lg is = absurd (omega (arith, ap length is))
same_payloads law (x ∷ xs) (y ∷ ys) lh lg is =
    let heads : x ≡ y = (law x y [] [] lh.0 lg.0 (ap (λ (l : List ℕ). l ++ []) (ap first_of is))).0 in
    ap (λ (z : Entry). z ∷ xs) heads ∙ ap (λ (zs : List Entry). y ∷ zs) (same_payloads law xs ys lh.1 lg.1 (ap rest_of is))

pub formed_of_history : (i : List ℕ) (h : List Entry) → IsHistoryOf h i → IsFormed h
formed_of_history i h is = ⊎_elim (λ s. subst IsFormed (sym s.1) none_formed) (λ l. l.1) is

-- ---- faults

pub gate_caused : (o : Option (List ℕ)) (f : GateFault) → (f ≡ gates.NotStore → ForSome o IsForeign) → ((k : ℕ) → f ≡ gates.Damaged k → ForSome o (λ i. IsDamaged i k)) → IsCaused o (open_fault f)
gate_caused o gates.NotStore foreign damaged = foreign refl
gate_caused o (gates.Damaged k) foreign damaged = damaged k refl
gate_caused o (gates.Full limit) foreign damaged = tt
gate_caused o gates.Disk foreign damaged = tt
gate_caused o gates.Memory foreign damaged = tt

pub stop_of : {T : Type 0} (f : GateFault) → gate.IsStopped {T = T} (Err f) → IsStopped (open_fault f)
stop_of f s = ⊎_elim (λ e. let same : f ≡ gates.Disk = cc in inl (ap open_fault same)) (λ e. let same : f ≡ gates.Memory = cc in inr (ap open_fault same)) s

abbrev IsErrIn : Type 0 → GateFault → GateFault → Type 0
IsErrIn T f x = let r : Result T GateFault = Err f in r ≡ Err x

pub fault_or_stop : {T : Type 0} (f x : GateFault) → IsErrIn T f x ⊎ gate.IsStopped {T = T} (Err f) → (open_fault f ≡ open_fault x) ⊎ IsStopped (open_fault f)
fault_or_stop f x s = ⊎_elim (λ e. let same : f ≡ x = cc in inl (ap open_fault same)) (λ s. inr (stop_of f s)) s

pub never_stopped : {T : Type 0} (x : T) → gate.IsStopped (Ok x) → ⊥
never_stopped x s = ⊎_elim (λ e. absurd cc) (λ e. absurd cc) s

pub never_fault : {T : Type 0} (x : T) (f : GateFault) → (Ok x ≡ Err f) ⊎ gate.IsStopped (Ok x) → ⊥
never_fault x f s = ⊎_elim (λ e. absurd cc) (never_stopped x) s

pub formed_caused : (o : Option (List ℕ)) (f : LoadFault) → ((k : ℕ) → f ≡ loads.NotFormed k → ForSome o (λ i. IsUnformed i k)) → IsCaused o (formed_fault f)
formed_caused o (loads.NotFormed k) unformed = unformed k refl
formed_caused o loads.Memory unformed = tt

pub formed_stop : (f : LoadFault) → ((k : ℕ) → f ≡ loads.NotFormed k → ⊥) → IsStopped (formed_fault f)
formed_stop (loads.NotFormed k) unformed = absurd (unformed k refl)
formed_stop loads.Memory unformed = inr refl

pub formed_is : (f : LoadFault) (k : ℕ) → ((j : ℕ) → f ≡ loads.NotFormed j → j ≡ k) → (formed_fault f ≡ faults.NotFormed k) ⊎ IsStopped (formed_fault f)
formed_is (loads.NotFormed j) k same = inl (ap faults.NotFormed (same j refl))
formed_is loads.Memory k same = inr (inr refl)

-- ---- the store

module _ {D : Type 0} (told_size : D → Option ℕ) (told_image : D → Option (List ℕ)) (may_leave : D → List ℕ → Type 0) where
  pub opened : (d : D) (s : Store) (l : Loaded) (h : List Entry) → Reads told_size told_image may_leave d s.gate l false h → s.chains.versions ≡ l.chains.versions → s.oldest ≡ 0 → s.pins ≡ []
      → s.texts.items ≡ l.texts.items → Opens told_size told_image may_leave d s h
  opened d s l h r versions oldest pins texts =
      let front : payloads h ≡ payloads (take (length h) h) = ap payloads (sym (take-length h)) in
      let back : [] ≡ payloads (drop (length h) h) = ap payloads (sym (drop-length h)) in
      record {
        holds = record {
          stands = record {
            formed = r.loads.formed;
            count = r.tracks.count ∙ ap length (append-nil (payloads h)) ∙ length-map h entry;
            versions = subst (StandFor s.chains.versions h) (sym oldest) (subst (λ es. StandFor es h 0) (sym versions) r.loads.versions);
            oldest = omega (arith, oldest);
            pins = λ x there. absurd (none (subst (λ (ps : List ℕ). Contains ps x) pins there));
            texts = ap (map text_of) texts ∙ r.loads.texts;
          };
          within = omega arith;
          settled_formed = subst IsFormed (sym (take-length h)) r.loads.formed;
          tracks = subst (λ ps. Tracks told_size told_image may_leave d s.gate ps (payloads (drop (length h) h))) front
              (subst (Tracks told_size told_image may_leave d s.gate (payloads h)) back r.tracks);
        };
        told = r.told;
        fresh = pins;
      }
    where
      none : {x : ℕ} → Contains [] x → ⊥
      none there = omega (arith, there.1)
