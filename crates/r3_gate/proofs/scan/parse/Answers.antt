use Rattle.std.proofs.Common.{◌≡◌, ◌≢◌, ℕ, ◌+◌, ◌-◌, ◌^◌, ◌<◌, ◌≤◌, Vec, List, [], ◌∷◌, ◌++◌, length, take, drop, get_or, map, rules, sym, ◌∙◌, ap, subst, arith}
use Rattle.std.proofs.lemmas.List.{length-map, length-append, take_rest, map-append}
use Rattle.std.specs.declared.alloc.Global.{Global}
use Rattle.r3_gate.specs.Log.{frame}
use Rattle.r3_gate.specs.Payloads.{contents}
use Rattle.r3_gate.proofs.Parses.{gate_is, ends_closed, damaged_at, last_fits, reads_one, Step}
use Rattle.r3_gate.proofs.scan.parse.Goals as goal

pub returns-clause-ok : goal.returns-clause-ok
returns-clause-ok c =
    let i = c.records.invariant in
    let shut : get_or c.args.bytes.now c.records.gate 0 ≢ 165 = λ e. let t = c.is_open.ensures.1 e in let f = c.records-test.false in cc in
    (ends_closed c.args.bytes.now (contents c.records.payloads) c.records.gate i.split i.some shut, i.fits, gate_is c.args.bytes.now (contents c.records.payloads) c.records.gate i.split i.some)

pub returns-then-not-has_room-clause-damaged : goal.returns-then-not-has_room-clause-damaged
returns-then-not-has_room-clause-damaged c = λ k is.
    let i = c.records.invariant in
    let same : c.len.result + 1 ≡ k = cc in
    let len : c.len.result ≡ length (contents c.records.payloads) = omega (arith, length-map c.records.payloads.items (λ p. p.items), c.len.ensures) in
    let len' : c.len-in-records.result ≡ length (contents c.records.payloads) = omega (arith, length-map c.records.payloads.items (λ p. p.items), c.len-in-records.ensures) in
    damaged_at c.args.bytes.now (contents c.records.payloads) c.records.gate k i.fits c.requires.long i.split i.some (c.is_open.ensures.0 c.records-test.true) (omega (arith, same, len))
    (λ p g rest fits whole.
    let few : c.len-in-records.result < 1000000 = omega (arith, fits.entries, len', length-append (contents c.records.payloads) (p ∷ [])) in
    let t = c.if-not-has_room.ensures.1 few in let h = c.if-not-has_room.true in cc)

pub returns-in_default-clause-damaged : goal.returns-in_default-clause-damaged
returns-in_default-clause-damaged c = λ k is.
    let i = c.records.invariant in
    let same : c.len.result + 1 ≡ k = cc in
    let len : c.len.result ≡ length (contents c.records.payloads) = omega (arith, length-map c.records.payloads.items (λ p. p.items), c.len.ensures) in
    damaged_at c.args.bytes.now (contents c.records.payloads) c.records.gate k i.fits c.requires.long i.split i.some (c.is_open.ensures.0 c.records-test.true) (omega (arith, same, len))
    (λ p g rest fits whole. c.in_default.ensures.none p g rest (last_fits (contents c.records.payloads) p fits) (take_rest c.args.bytes.now (c.records.gate + 1) ∙ whole))

pub records-preserved : goal.records-preserved
records-preserved c =
    let i = c.records.invariant in
    let ps = contents c.records.payloads in
    let n = c.in-Some.len in
    let after = drop (c.records.gate + 1) c.args.bytes.now in
    let tail : take (length c.args.bytes.now - (c.records.gate + 1)) after ≡ after = take_rest c.args.bytes.now (c.records.gate + 1) in
    let W : List ℕ → Type 0 = λ a. (1 ≤ n) × (n ≤ 2 ^ 23) × (5 + n ≤ length a) × (a ≡ frame (take n (drop 4 a)) ++ drop (4 + n) a) in
    let some = subst W tail c.in-Some.ensures.some in
    let len' : c.len-in-records.result ≡ length ps = omega (arith, length-map c.records.payloads.items (λ p. p.items), c.len-in-records.ensures) in
    let added : c.push.new.self.items ≡ c.records.payloads.items ++ c.in_ok-payload.payload ∷ [] = search rules in
    let raw : c.in_ok-payload.payload.items ≡ take (4 + n - 4) (drop 4 (take (length c.args.bytes.now - (c.records.gate + 1)) after)) = search rules in
    let four : 4 + n - 4 ≡ n = omega arith in
    let copied : c.in_ok-payload.payload.items ≡ take n (drop 4 after) =
    raw ∙ ap (λ (k : ℕ). take k (drop 4 (take (length c.args.bytes.now - (c.records.gate + 1)) after))) four ∙ ap (λ (l : List ℕ). take n (drop 4 l)) tail in
    let pushed : contents c.push.new.self ≡ ps ++ take n (drop 4 after) ∷ [] =
    ap (λ (l : List (Vec ℕ Global)). map (λ p. p.items) l) added ∙ map-append (λ (v : Vec ℕ Global). v.items) c.records.payloads.items (c.in_ok-payload.payload ∷ []) ∙ ap (λ (l : List ℕ). ps ++ l ∷ []) copied in
    let s = reads_one c.args.bytes.now ps c.records.gate n i.split i.fits i.some (c.is_open.ensures.0 c.records-test.true) c.requires.short (let few : c.len-in-records.result < 1000000 = c.if-not-has_room.ensures.0 (let h = c.if-not-has_room.false in cc) in omega (arith, len', few)) some.0 some.1 some.2 some.3 in
    let s' = subst (λ (l : List (List ℕ)). Step c.args.bytes.now l (c.records.gate + (5 + n))) (sym pushed) s in
    record { split = s'.split; fits = s'.fits; some = s'.some }
