use Rattle.std.proofs.Common.{rules, ◌≡◌, inl, inr, ◌≤◌, ◌^◌, List, length, string_bytes, refl, sym, ◌∙◌, subst}
use Rattle.fn_tree.specs.declared.program.Item.{Item}
use Rattle.r3_model.specs.Language.{Text}
use Rattle.r3_model.specs.Functions.{language_of}
use Rattle.r3_session.specs.Begun.{StopsOpening}
use Rattle.r3_recover.specs.Opened.{HasProgram}
use Rattle.r3_serve.specs.Served.{Loud}
use Rattle.r3_top.specs.declared.halt.Halt.TheVariants as halts
use Rattle.r3_top.specs.Functions.{IsAccepted, IsRefused}
use Rattle.r3_top.specs.Refusals.{IsFile, IsOthers}
use Rattle.r3_top.proofs.Saying.{says-same}
use Rattle.r3_top.proofs.Refusing.{at-fetch, at-accept, cause-fetch, cause-accept, is-file, no-fault-in, none-of, nothing-done, no-store, store-is-taken}
use Rattle.r3_top.proofs.Generating.{gen-not-this}
use Rattle.r3_top.proofs.Leaving.{unbegun-first, untouched-first, untouched-read, opening}
use Rattle.r3_top.proofs.begin.begin.Goals as goal

-- ---- the file isn't fetched

pub returns-in-Err-clause-causes : goal.returns-in-Err-clause-causes
returns-in-Err-clause-causes g c = λ text there.
    cause-fetch text (g.D.Desk.image c.args.desk.now) c.in-Err.halt c.in-Err.ensures.stops (λ l. c.in-Err.ensures.long l text there)

pub returns-in-Err-clause-file_first : goal.returns-in-Err-clause-file_first
returns-in-Err-clause-file_first g c = λ text there none. (refl, at-fetch text c.in-Err.halt c.in-Err.ensures.stops (λ l. c.in-Err.ensures.long l text there))

pub returns-in-Err-clause-goes : goal.returns-in-Err-clause-goes
returns-in-Err-clause-goes g c = λ text image h there is history has.
    nothing-done g.D.Desk.image g.D.Desk.may_leave g.D.Desk.moment g.D.Desk.reach g.D.Desk.said g.D.Desk.asked c.args.desk.now c.args.desk.now text h
    c.in-Err.halt (at-fetch text c.in-Err.halt c.in-Err.ensures.stops (λ l. c.in-Err.ensures.long l text there))
    (unbegun-first g.D.Desk.image g.D.Desk.may_leave g.D.Desk.moment g.D.Desk.reach g.D.Desk.said g.D.Desk.asked c.args.desk.now h image
    (g.met.D.Desk.counts_now c.args.desk.now) (g.met.D.Desk.only_now c.args.desk.now) c.requires is history)

-- ---- it is refused

pub returns-in-Err-accept-clause-causes : goal.returns-in-Err-accept-clause-causes
returns-in-Err-accept-clause-causes g c = λ text there.
    let same = c.in-Ok.ensures.text text there in
    let items : c.deref.result.now ≡ text = c.deref.ensures.value ∙ same in
    let short : length text ≤ 2 ^ 20 = subst (λ (x : Text). length x ≤ 2 ^ 20) same c.in-Ok.ensures.short in
    cause-accept text (g.D.Desk.image c.args.desk.now) c.in-Err-accept.halt short c.in-Err-accept.ensures.halts
    (λ fault at. subst (λ (x : Text). IsRefused x fault) items (c.in-Err-accept.ensures.refused fault at))
    (λ fault at is accepted. c.in-Err-accept.ensures.none fault at is (subst (λ (x : Text). IsAccepted x is) (sym items) accepted))

pub returns-in-Err-accept-clause-file_first : goal.returns-in-Err-accept-clause-file_first
returns-in-Err-accept-clause-file_first g c = λ text there none.
    let same = c.in-Ok.ensures.text text there in
    let items : c.deref.result.now ≡ text = c.deref.ensures.value ∙ same in
    let short : length text ≤ 2 ^ 20 = subst (λ (x : Text). length x ≤ 2 ^ 20) same c.in-Ok.ensures.short in (
      refl,
      at-accept text c.in-Err-accept.halt short c.in-Err-accept.ensures.halts
          (λ fault at. subst (λ (x : Text). IsRefused x fault) items (c.in-Err-accept.ensures.refused fault at)),
    )

pub returns-in-Err-accept-clause-goes : goal.returns-in-Err-accept-clause-goes
returns-in-Err-accept-clause-goes g c = λ text image h there is history has.
    let same = c.in-Ok.ensures.text text there in
    let items : c.deref.result.now ≡ text = c.deref.ensures.value ∙ same in
    let short : length text ≤ 2 ^ 20 = subst (λ (x : Text). length x ≤ 2 ^ 20) same c.in-Ok.ensures.short in
    nothing-done g.D.Desk.image g.D.Desk.may_leave g.D.Desk.moment g.D.Desk.reach g.D.Desk.said g.D.Desk.asked c.args.desk.now c.args.desk.now text h
    c.in-Err-accept.halt (at-accept text c.in-Err-accept.halt short c.in-Err-accept.ensures.halts
    (λ fault at. subst (λ (x : Text). IsRefused x fault) items (c.in-Err-accept.ensures.refused fault at)))
    (unbegun-first g.D.Desk.image g.D.Desk.may_leave g.D.Desk.moment g.D.Desk.reach g.D.Desk.said g.D.Desk.asked c.args.desk.now h image
    (g.met.D.Desk.counts_now c.args.desk.now) (g.met.D.Desk.only_now c.args.desk.now) c.requires is history)

-- ---- it is taken, but there is no memory

pub returns-in_default-clause-goes : goal.returns-in_default-clause-goes
returns-in_default-clause-goes g c = λ text image h there is history has.
    nothing-done g.D.Desk.image g.D.Desk.may_leave g.D.Desk.moment g.D.Desk.reach g.D.Desk.said g.D.Desk.asked c.args.desk.now c.args.desk.now text h
    halts.Memory tt
    (unbegun-first g.D.Desk.image g.D.Desk.may_leave g.D.Desk.moment g.D.Desk.reach g.D.Desk.said g.D.Desk.asked c.args.desk.now h image
    (g.met.D.Desk.counts_now c.args.desk.now) (g.met.D.Desk.only_now c.args.desk.now) c.requires is history)

pub returns-in_default-clause-file_first : goal.returns-in_default-clause-file_first
returns-in_default-clause-file_first g c = λ text there none.
    absurd (none (
      c.in-Ok-accept.program,
      is-file text c.in-Ok.text.items c.deref.result.now c.in-Ok-accept.program
          (c.in-Ok.ensures.text text there) c.in-Ok.ensures.short c.deref.ensures.value c.in-Ok-accept.ensures.accepted,
    ))

-- ---- the store is opened

pub returns-in-Ok-open-clause-begins : goal.returns-in-Ok-open-clause-begins
returns-in-Ok-open-clause-begins g c =
    let string : string_bytes c.in-Ok-from_utf8.text ≡ c.in-Ok.text.items = search rules in
    let bytes : c.as_str.result.now ≡ c.in-Ok.text.items = c.as_str.ensures.value ∙ string in
    let o = c.in-Ok-open.ensures.serves Loud in
    let accepted : IsAccepted c.as_str.result.now c.in-Ok-accept.program = subst (λ (x : Text). IsAccepted x c.in-Ok-accept.program) (c.deref.ensures.value ∙ sym bytes) c.in-Ok-accept.ensures.accepted in (
      c.as_str.result.now,
      o.0,
      λ t there. bytes ∙ c.in-Ok.ensures.text t there,
      record {
        file = (
          subst (λ (x : Text). length x ≤ 2 ^ 20) (sym bytes) c.in-Ok.ensures.short,
          subst (λ (is : List Item). IsAccepted c.as_str.result.now is) (sym c.in-Ok-open.ensures.program) accepted,
        );
        history = o.1;
        program = o.2;
      },
      o.3,
    )

pub returns-in-Ok-open-clause-faultless : goal.returns-in-Ok-open-clause-faultless
returns-in-Ok-open-clause-faultless g c = λ text there. no-fault-in text c.deref.result.now (c.deref.ensures.value ∙ c.in-Ok.ensures.text text there) c.in-Ok-accept.ensures.faultless

pub returns-in-Ok-open-clause-file_first : goal.returns-in-Ok-open-clause-file_first
returns-in-Ok-open-clause-file_first g c = λ text there none.
    absurd (none (
      c.in-Ok-accept.program,
      is-file text c.in-Ok.text.items c.deref.result.now c.in-Ok-accept.program
          (c.in-Ok.ensures.text text there) c.in-Ok.ensures.short c.deref.ensures.value c.in-Ok-accept.ensures.accepted,
    ))

-- ---- it is no store

pub returns-in-Err-Store-clause-refuses : goal.returns-in-Err-Store-clause-refuses
returns-in-Err-Store-clause-refuses g c = λ text there.
    let string : string_bytes c.in-Ok-from_utf8.text ≡ c.in-Ok.text.items = search rules in
    let bytes : c.as_str.result.now ≡ c.in-Ok.text.items = c.as_str.ensures.value ∙ string in
    let file : IsFile text c.in-Ok-accept.program = is-file text c.in-Ok.text.items c.deref.result.now c.in-Ok-accept.program
    (c.in-Ok.ensures.text text there) c.in-Ok.ensures.short c.deref.ensures.value c.in-Ok-accept.ensures.accepted in
    let kept = c.in-Err-Store.ensures.kept c.in-Err-Store.fault (search rules) in
    inr (
      (
        (c.in-Ok-accept.program, file),
        no-store (g.D.Desk.image c.args.desk.now) c.as_str.result.now c.in-Err-Store.field-0 c.in-Err-Store.fault c.in-Err-Store.field-0-is
            c.in-Err-Store.ensures.opens c.in-Err-Store.ensures.other c.in-Err-Store.ensures.causes c.entry_of.result c.entry_of.ensures,
      ),
      says-same g.D.Desk.image g.D.Desk.said g.D.Desk.asked c.args.desk.now c.open.new.desk c.open.ensures.said c.open.ensures.asked kept,
    )

pub returns-in-Err-Store-clause-causes : goal.returns-in-Err-Store-clause-causes
returns-in-Err-Store-clause-causes g c = λ text there.
    let same = c.in-Ok.ensures.text text there in
    let file : IsFile text c.in-Ok-accept.program = is-file text c.in-Ok.text.items c.deref.result.now c.in-Ok-accept.program
    same c.in-Ok.ensures.short c.deref.ensures.value c.in-Ok-accept.ensures.accepted in (
      ((c.in-Ok-accept.program, file), no-fault-in text c.deref.result.now (c.deref.ensures.value ∙ same) c.in-Ok-accept.ensures.faultless),
      no-store (g.D.Desk.image c.args.desk.now) c.as_str.result.now c.in-Err-Store.field-0 c.in-Err-Store.fault c.in-Err-Store.field-0-is
          c.in-Err-Store.ensures.opens c.in-Err-Store.ensures.other c.in-Err-Store.ensures.causes c.entry_of.result c.entry_of.ensures,
    )

pub returns-in-Err-Store-clause-file_first : goal.returns-in-Err-Store-clause-file_first
returns-in-Err-Store-clause-file_first g c = λ text there none.
    absurd (none (
      c.in-Ok-accept.program,
      is-file text c.in-Ok.text.items c.deref.result.now c.in-Ok-accept.program
          (c.in-Ok.ensures.text text there) c.in-Ok.ensures.short c.deref.ensures.value c.in-Ok-accept.ensures.accepted,
    ))

pub returns-in-Err-Store-clause-goes : goal.returns-in-Err-Store-clause-goes
returns-in-Err-Store-clause-goes g c = λ text image h there is history has.
    let string : string_bytes c.in-Ok-from_utf8.text ≡ c.in-Ok.text.items = search rules in
    let bytes : c.as_str.result.now ≡ text = c.as_str.ensures.value ∙ string ∙ c.in-Ok.ensures.text text there in
    store-is-taken (g.D.Desk.image c.args.desk.now) c.as_str.result.now image h c.in-Err-Store.field-0 c.in-Err-Store.fault c.in-Err-Store.field-0-is
    c.in-Err-Store.ensures.opens is history (subst (λ (x : Text). HasProgram h x) (sym bytes) has)

-- ---- it is another program's

pub returns-in-Err-Other-clause-causes : goal.returns-in-Err-Other-clause-causes
returns-in-Err-Other-clause-causes g c = λ text there.
    let same = c.in-Ok.ensures.text text there in
    let string : string_bytes c.in-Ok-from_utf8.text ≡ c.in-Ok.text.items = search rules in
    let bytes : c.as_str.result.now ≡ text = c.as_str.ensures.value ∙ string ∙ same in
    let file : IsFile text c.in-Ok-accept.program = is-file text c.in-Ok.text.items c.deref.result.now c.in-Ok-accept.program
    same c.in-Ok.ensures.short c.deref.ensures.value c.in-Ok-accept.ensures.accepted in (
      ((c.in-Ok-accept.program, file), no-fault-in text c.deref.result.now (c.deref.ensures.value ∙ same) c.in-Ok-accept.ensures.faultless),
      subst (λ (x : Text). IsOthers x (g.D.Desk.image c.args.desk.now)) bytes
          (gen-not-this (g.D.Desk.image c.args.desk.now) c.as_str.result.now c.in-Err-Other.field-0 c.in-Err-Other.field-0-is c.in-Err-Other.ensures.opens c.in-Err-Other.ensures.causes),
    )

pub returns-in-Err-Other-clause-file_first : goal.returns-in-Err-Other-clause-file_first
returns-in-Err-Other-clause-file_first g c = λ text there none.
    absurd (none (
      c.in-Ok-accept.program,
      is-file text c.in-Ok.text.items c.deref.result.now c.in-Ok-accept.program
          (c.in-Ok.ensures.text text there) c.in-Ok.ensures.short c.deref.ensures.value c.in-Ok-accept.ensures.accepted,
    ))

pub returns-in-Err-Disk-clause-file_first : goal.returns-in-Err-Disk-clause-file_first
returns-in-Err-Disk-clause-file_first g c = λ text there none.
    absurd (none (
      c.in-Ok-accept.program,
      is-file text c.in-Ok.text.items c.deref.result.now c.in-Ok-accept.program
          (c.in-Ok.ensures.text text there) c.in-Ok.ensures.short c.deref.ensures.value c.in-Ok-accept.ensures.accepted,
    ))

-- ---- the file is left alone

pub returns-in-Err-clause-alone : goal.returns-in-Err-clause-alone
returns-in-Err-clause-alone g c = λ text image there is none.
    untouched-first g.D.Desk.image g.D.Desk.may_leave g.D.Desk.moment g.D.Desk.reach g.D.Desk.said g.D.Desk.asked g.D.Desk.syncs c.args.desk.now (g.met.D.Desk.counts_now c.args.desk.now) (g.met.D.Desk.only_now c.args.desk.now) c.requires

pub returns-in-Err-accept-clause-alone : goal.returns-in-Err-accept-clause-alone
returns-in-Err-accept-clause-alone g c = λ text image there is none.
    untouched-first g.D.Desk.image g.D.Desk.may_leave g.D.Desk.moment g.D.Desk.reach g.D.Desk.said g.D.Desk.asked g.D.Desk.syncs c.args.desk.now (g.met.D.Desk.counts_now c.args.desk.now) (g.met.D.Desk.only_now c.args.desk.now) c.requires

pub returns-in_default-clause-alone : goal.returns-in_default-clause-alone
returns-in_default-clause-alone g c = λ text image there is none.
    untouched-first g.D.Desk.image g.D.Desk.may_leave g.D.Desk.moment g.D.Desk.reach g.D.Desk.said g.D.Desk.asked g.D.Desk.syncs c.args.desk.now (g.met.D.Desk.counts_now c.args.desk.now) (g.met.D.Desk.only_now c.args.desk.now) c.requires

pub returns-in-Err-Store-clause-alone : goal.returns-in-Err-Store-clause-alone
returns-in-Err-Store-clause-alone g c = λ text image there is none.
    let string : string_bytes c.in-Ok-from_utf8.text ≡ c.in-Ok.text.items = search rules in
    let bytes : c.as_str.result.now ≡ text = c.as_str.ensures.value ∙ string ∙ c.in-Ok.ensures.text text there in
    untouched-read g.D.Desk.image g.D.Desk.may_leave g.D.Desk.moment g.D.Desk.reach g.D.Desk.said g.D.Desk.asked g.D.Desk.syncs c.args.desk.now c.open.new.desk
    (c.open.ensures.alone image is (none-of text c.as_str.result.now image bytes none)) c.open.ensures.said c.open.ensures.asked

pub returns-in-Err-Other-clause-alone : goal.returns-in-Err-Other-clause-alone
returns-in-Err-Other-clause-alone g c = λ text image there is none.
    let string : string_bytes c.in-Ok-from_utf8.text ≡ c.in-Ok.text.items = search rules in
    let bytes : c.as_str.result.now ≡ text = c.as_str.ensures.value ∙ string ∙ c.in-Ok.ensures.text text there in
    untouched-read g.D.Desk.image g.D.Desk.may_leave g.D.Desk.moment g.D.Desk.reach g.D.Desk.said g.D.Desk.asked g.D.Desk.syncs c.args.desk.now c.open.new.desk
    (c.open.ensures.alone image is (none-of text c.as_str.result.now image bytes none)) c.open.ensures.said c.open.ensures.asked

pub returns-in-Err-Disk-clause-alone : goal.returns-in-Err-Disk-clause-alone
returns-in-Err-Disk-clause-alone g c = λ text image there is none.
    let string : string_bytes c.in-Ok-from_utf8.text ≡ c.in-Ok.text.items = search rules in
    let bytes : c.as_str.result.now ≡ text = c.as_str.ensures.value ∙ string ∙ c.in-Ok.ensures.text text there in
    untouched-read g.D.Desk.image g.D.Desk.may_leave g.D.Desk.moment g.D.Desk.reach g.D.Desk.said g.D.Desk.asked g.D.Desk.syncs c.args.desk.now c.open.new.desk
    (c.open.ensures.alone image is (none-of text c.as_str.result.now image bytes none)) c.open.ensures.said c.open.ensures.asked

pub returns-clause-alone : goal.returns-clause-alone
returns-clause-alone g c = λ text image there is none.
    let string : string_bytes c.in-Ok-from_utf8.text ≡ c.in-Ok.text.items = search rules in
    let bytes : c.as_str.result.now ≡ text = c.as_str.ensures.value ∙ string ∙ c.in-Ok.ensures.text text there in
    untouched-read g.D.Desk.image g.D.Desk.may_leave g.D.Desk.moment g.D.Desk.reach g.D.Desk.said g.D.Desk.asked g.D.Desk.syncs c.args.desk.now c.open.new.desk
    (c.open.ensures.alone image is (none-of text c.as_str.result.now image bytes none)) c.open.ensures.said c.open.ensures.asked

-- ---- the opening ended early

pub returns-in-Err-Disk-clause-goes : goal.returns-in-Err-Disk-clause-goes
returns-in-Err-Disk-clause-goes g c = λ text image h there is history has.
    let string : string_bytes c.in-Ok-from_utf8.text ≡ c.in-Ok.text.items = search rules in
    let bytes : c.as_str.result.now ≡ text = c.as_str.ensures.value ∙ string ∙ c.in-Ok.ensures.text text there in
    inl (opening g.D.Desk.image g.D.Desk.may_leave g.D.Desk.moment g.D.Desk.reach g.D.Desk.said g.D.Desk.asked c.args.desk.now c.open.new.desk text h c.in-Ok-accept.program
    (subst (λ (x : Text). IsAccepted x c.in-Ok-accept.program) (c.deref.ensures.value ∙ c.in-Ok.ensures.text text there) c.in-Ok-accept.ensures.accepted)
    (subst (λ (x : Text). StopsOpening g.D.Desk.image g.D.Desk.moment g.D.Desk.reach g.D.Desk.said g.D.Desk.asked (language_of c.in-Ok-accept.program) c.args.desk.now c.open.new.desk x h) bytes
    (c.in-Err-Disk.ensures.stops h image is history))
    c.open.ensures.said c.open.ensures.asked)

pub returns-clause-goes : goal.returns-clause-goes
returns-clause-goes g c = λ text image h there is history has.
    let string : string_bytes c.in-Ok-from_utf8.text ≡ c.in-Ok.text.items = search rules in
    let bytes : c.as_str.result.now ≡ text = c.as_str.ensures.value ∙ string ∙ c.in-Ok.ensures.text text there in
    inr (inl (opening g.D.Desk.image g.D.Desk.may_leave g.D.Desk.moment g.D.Desk.reach g.D.Desk.said g.D.Desk.asked c.args.desk.now c.open.new.desk text h c.in-Ok-accept.program
    (subst (λ (x : Text). IsAccepted x c.in-Ok-accept.program) (c.deref.ensures.value ∙ c.in-Ok.ensures.text text there) c.in-Ok-accept.ensures.accepted)
    (subst (λ (x : Text). StopsOpening g.D.Desk.image g.D.Desk.moment g.D.Desk.reach g.D.Desk.said g.D.Desk.asked (language_of c.in-Ok-accept.program) c.args.desk.now c.open.new.desk x h) bytes
    (c.in-Err-Memory.ensures.stops h image is history))
    c.open.ensures.said c.open.ensures.asked))
