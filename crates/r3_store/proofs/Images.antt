-- The log of a history's payloads is an image of that history.
use Rattle.std.proofs.Common.{◌≡◌, ◌≢◌, ℕ, List, [], ◌∷◌, ◌++◌, length, refl, ap, ◌∙◌, inl, inr, ⊎_elim, arith, length-append}
use Rattle.r3_gate.specs.Log as log
use Rattle.r3_gate.specs.Log.{IsLog, size_of}
use Rattle.r3_entry.specs.declared.entry.Entry.{Entry}
use Rattle.r3_entry.specs.Bytes.{entry, records, record_of, magic, size}
use Rattle.r3_entry.specs.Formed.{IsFormed}
use Rattle.r3_entry.specs.Image.{IsHistoryOf}
use Rattle.r3_formed.specs.Load.{payloads}

pub size_is : (h : List Entry) → size_of (payloads h) ≡ size h
size_is [] = refl
size_is (e ∷ es) = omega (arith, size_is es)

pub same_records : (h : List Entry) → log.records (payloads h) ≡ records h
unfolding log.frame
same_records [] = refl
same_records (e ∷ es) = ap (λ xs. 165 ∷ log.frame (entry e) ++ xs) (same_records es)

no_payloads : (h : List Entry) → payloads h ≡ [] → h ≡ []
no_payloads [] e = refl
no_payloads (x ∷ xs) e = cc

of_front : (c : List ℕ) (h : List Entry) → IsFormed h → (g : ℕ) (rest : List ℕ) → g ≢ 165 → c ≡ (magic ++ records h) ++ g ∷ rest → IsHistoryOf h c
of_front c [] formed g [] shut is = inl (omega (arith, ap length is), refl)
of_front c [] formed g (x ∷ rest) shut is = inr (omega (arith, ap length is), formed, (g, x ∷ rest, shut, is))
of_front c (e ∷ es) formed g rest shut is =
    inr (omega (arith, ap length is, length-append (magic ++ records (e ∷ es)) (g ∷ rest), length-append (record_of e) (records es)), formed, (g, rest, shut, is))

pub history_of_log : (c : List ℕ) (h : List Entry) → IsFormed h → IsLog c (payloads h) → IsHistoryOf h c
history_of_log c h formed l =
    ⊎_elim (λ short. inl (short.0, no_payloads h short.1))
    (λ f. of_front c h formed f.gate f.rest f.shut (f.is ∙ ap (λ (xs : List ℕ). (magic ++ xs) ++ f.gate ∷ f.rest) (same_records h))) l.bytes
