-- One entry more is read of a log.
use Rattle.std.proofs.Common.{◌≡◌, ℕ, ◌+◌, ◌<◌, ◌≤◌, ◌^◌, Bool, true, false, cond, List, [], ◌∷◌, ◌++◌, length, take, drop, get_or, map, refl, sym, ap, ◌∙◌, subst, arith, append-nil, append_assoc, zero, suc}
use Rattle.std.specs.Prelude.{Vec}
use Rattle.std.specs.List.{AllByRecursion}
use Rattle.std.specs.declared.alloc.Global.{Global}
use Rattle.std.proofs.lemmas.List.{map-append, length-map}
use Rattle.r3_gate.specs.Log.{size_of, Fits, IsPayload}
use Rattle.r3_entry.specs.declared.entry.Entry.{Entry}
use Rattle.r3_entry.specs.declared.fault.EntryFault.{EntryFault}
use Rattle.r3_entry.specs.declared.fault.EntryFault.TheVariants as misses
use Rattle.r3_entry.specs.Bytes.{entry, size}
use Rattle.r3_entry.specs.Formed.{Follows, FollowEachOther, IsFormed}
use Rattle.r3_entry.specs.History.{map_at}
use Rattle.r3_formed.specs.Past.{StandFor}
use Rattle.r3_formed.specs.Answers.{texts_from, text_at, program_texts}
use Rattle.r3_formed.specs.Load.{payloads, bytes_of, load_fault}
use Rattle.r3_formed.specs.declared.fault.LoadFault.TheVariants as faults

pub load_not : (f : EntryFault) (n k : ℕ) → load_fault f n ≡ faults.NotFormed k → (f ≡ misses.NotEntry) × (n ≡ k)
load_not misses.NotEntry n k is = (refl, cc)
load_not misses.Memory n k is = absurd cc

pub last_all : {X : Type 0} (P : X → Type 0) (xs : List X) (x : X) → AllByRecursion P (xs ++ x ∷ []) → P x
last_all P [] x all = all.0
last_all P (y ∷ xs) x all = last_all P xs x all.1

last_follows : (g h : List Entry) (e : Entry) → FollowEachOther g (h ++ e ∷ []) → Follows (g ++ h) e
last_follows g [] e f = subst (λ (x : List Entry). Follows x e) (sym (append-nil g)) f.0
last_follows g (x ∷ xs) e f = subst (λ (y : List Entry). Follows y e) (append_assoc g (x ∷ []) xs) (last_follows (g ++ x ∷ []) xs e f.1)

pub follows_last : (h : List Entry) (e : Entry) → IsFormed (h ++ e ∷ []) → Follows h e
follows_last h e formed = last_follows [] h e formed.entries

pub kept_more : (keep : Bool) (xs h : List Entry) (e : Entry) → xs ≡ cond keep h [] → cond keep (xs ++ e ∷ []) xs ≡ cond keep (h ++ e ∷ []) []
kept_more true xs h e is = ap (λ (x : List Entry). x ++ e ∷ []) is
kept_more false xs h e is = is

abbrev Texts : Type 0
Texts = List (ℕ × List ℕ)

pub texts_push : (j : ℕ) (h : List Entry) (e : Entry) → texts_from j (h ++ e ∷ []) ≡ texts_from j h ++ text_at (j + length h) e.act
texts_push j [] e = append-nil (text_at j e.act) ∙ ap (λ (n : ℕ). text_at n e.act) (let z : j ≡ j + 0 = omega arith in z)
texts_push j (x ∷ xs) e =
    ap (λ (ts : Texts). text_at j x.act ++ ts) (texts_push (j + 1) xs e ∙ ap (λ (n : ℕ). texts_from (j + 1) xs ++ text_at n e.act) (let z : j + 1 + length xs ≡ j + suc (length xs) = omega arith in z))
    ∙ sym (append_assoc (text_at j x.act) (texts_from (j + 1) xs) (text_at (j + suc (length xs)) e.act))

pub texts_more : (keep : Bool) (ts : Texts) (h : List Entry) (e : Entry) (n : ℕ) → n ≡ length h → ts ≡ cond keep [] (program_texts h)
    → cond keep ts (ts ++ text_at (n + 1) e.act) ≡ cond keep [] (program_texts (h ++ e ∷ []))
texts_more true ts h e n same is = is
texts_more false ts h e n same is =
    ap (λ (xs : Texts). xs ++ text_at (n + 1) e.act) is ∙ ap (λ (k : ℕ). program_texts h ++ text_at k e.act) (let z : n + 1 ≡ 1 + length h = omega (arith, same) in z)
    ∙ sym (texts_push 1 h e)

-- ---- the payload at a place

pub split_at : (bs : List (List ℕ)) (i : ℕ) (p : List ℕ) → i < length bs → p ≡ get_or bs i p → bs ≡ take i bs ++ p ∷ drop (suc i) bs
split_at [] i p within is = absurd (omega (arith, within))
split_at (b ∷ bs) zero p within is = ap (λ (x : List ℕ). x ∷ bs) (sym is)
split_at (b ∷ bs) (suc i) p within is = ap (λ (xs : List (List ℕ)). b ∷ xs) (split_at bs i p (omega (arith, within)) is)

take_more : (bs : List (List ℕ)) (i : ℕ) (p : List ℕ) → i < length bs → p ≡ get_or bs i p → take (suc i) bs ≡ take i bs ++ p ∷ []
take_more [] i p within is = absurd (omega (arith, within))
take_more (b ∷ bs) zero p within is = ap (λ (x : List ℕ). x ∷ []) (sym is)
take_more (b ∷ bs) (suc i) p within is = ap (λ (xs : List (List ℕ)). b ∷ xs) (take_more bs i p (omega (arith, within)) is)

pub at_map : (ps : List (Vec ℕ Global)) (i : ℕ) (p : Vec ℕ Global) → p ≡ get_or ps i p → p.items ≡ get_or (map (λ p. p.items) ps) i p.items
at_map [] i p is = refl
at_map (q ∷ ps) zero p is = ap (λ (x : Vec ℕ Global). x.items) is
at_map (q ∷ ps) (suc i) p is = at_map ps i p is

pub size_is : (h : List Entry) → size_of (payloads h) ≡ size h
size_is [] = refl
size_is (e ∷ es) = omega (arith, size_is es)

size_least : (ps : List (List ℕ)) → 9 ≤ size_of ps
size_least [] = omega arith
size_least (p ∷ ps) = omega (arith, size_least ps)

size_with : (ps : List (List ℕ)) (p : List ℕ) (rest : List (List ℕ)) → size_of ps + (5 + length p) ≤ size_of (ps ++ p ∷ rest)
size_with [] p rest = omega (arith, size_least rest)
size_with (q ∷ ps) p rest = omega (arith, size_with ps p rest)

-- the payload behind those of h
pub record Next (bs : List (List ℕ)) (h : List Entry) (p : List ℕ) : Type 0 where
  pub rest : List (List ℕ)
  pub is : bs ≡ payloads h ++ p ∷ rest
  pub payload : IsPayload p
  pub few : length h < 1000000
  pub small : size h + (5 + length p) ≤ 2 ^ 30

pub next_of : (bs : List (List ℕ)) (i : ℕ) (h : List Entry) (p : List ℕ) → Fits bs → payloads h ≡ take i bs → i ≡ length h → i < length bs → p ≡ get_or bs i p → Next bs h p
next_of bs i h p fits done count within at =
    let whole : bs ≡ payloads h ++ p ∷ drop (suc i) bs = split_at bs i p within at ∙ ap (λ (xs : List (List ℕ)). xs ++ p ∷ drop (suc i) bs) (sym done) in
    record {
      rest = drop (suc i) bs;
      is = whole;
      payload = subst IsPayload (sym at) (fits.each i p within);
      few = omega (arith, fits.entries, within, count);
      small = omega (arith, fits.bytes, ap size_of whole, size_with (payloads h) p (drop (suc i) bs), size_is h);
    }

pub done_more : (bs : List (List ℕ)) (i : ℕ) (h : List Entry) (e : Entry) (p : List ℕ) → payloads h ≡ take i bs → i < length bs → p ≡ get_or bs i p → p ≡ entry e
    → payloads (h ++ e ∷ []) ≡ take (i + 1) bs
done_more bs i h e p done within at is =
    map-append entry h (e ∷ []) ∙ ap (λ (xs : List (List ℕ)). xs ++ entry e ∷ []) done ∙ ap (λ (x : List ℕ). take i bs ++ x ∷ []) (sym is)
    ∙ sym (take_more bs i p within at) ∙ ap (λ (n : ℕ). take n bs) (let z : suc i ≡ i + 1 = omega arith in z)

-- ---- nothing read yet

pub none_formed : IsFormed []
none_formed = record { entries = tt; few = omega arith; small = omega arith; payloads = tt; limits = tt }

pub none_stands : StandFor [] [] 0
none_stands = record {
  sorted = tt;
  maps = λ k le. none_map k;
  past = λ snap key le. refl;
  numbers = λ key. tt;
  falling = λ key. tt;
  kept = omega arith;
}
  where
    none_map : (k : ℕ) → [] ≡ map_at [] k
    none_map zero = refl
    none_map (suc k) = refl

-- the same, of a payload in a vector
pub next_in : (ps : List (Vec ℕ Global)) (i n : ℕ) (h : List Entry) (v : Vec ℕ Global) (p : List ℕ) → Fits (bytes_of ps) → payloads h ≡ take i (bytes_of ps) → n ≡ length h → n ≡ i → i < length ps
    → v ≡ get_or ps i v → p ≡ v.items → Next (bytes_of ps) h p
next_in ps i n h v p fits done count number within at is =
    subst (Next (bytes_of ps) h) (sym is)
    (next_of (bytes_of ps) i h v.items fits done (omega (arith, count, number)) (omega (arith, within, length-map ps (λ p. p.items))) (at_map ps i v at))

pub done_in : (ps : List (Vec ℕ Global)) (i : ℕ) (h : List Entry) (e : Entry) (v : Vec ℕ Global) (p : List ℕ) → payloads h ≡ take i (bytes_of ps) → i < length ps
    → v ≡ get_or ps i v → p ≡ v.items → p ≡ entry e → payloads (h ++ e ∷ []) ≡ take (i + 1) (bytes_of ps)
done_in ps i h e v p done within at is spelled =
    done_more (bytes_of ps) i h e v.items done (omega (arith, within, length-map ps (λ p. p.items))) (at_map ps i v at) (sym is ∙ spelled)
