use Rattle.std.proofs.Common.{◌≡◌, ℕ, List, [], true, false, Bool, Some, None, Ok, Err, Option, Result, refl, sym, ap, ◌∙◌, rules, arith}
use Rattle.r3_script.specs.declared.script.Script.{Script}
use Rattle.r3_script.specs.declared.fault.ScriptFault.{ScriptFault}
use Rattle.r3_script.specs.declared.fault.ScriptFault.TheVariants.{Source}
use Rattle.r3_script.proofs.Going.{Taken, since_start, taken, taken_is, since_more, pushed_is, answers_push, answers_fault, answers_end, answers_is}
use Rattle.r3_script.proofs.script.Script.next_line.Goals as goal

pub bytes-init : goal.bytes-init
bytes-init g c = record {
  open_still = c.if-self.false;
  faults = refl;
  lines = λ given handed r. since_start (g.S.Source.left c.args.source.now) c.args.self.now c.clear.new.self given handed c.if-self.false c.clear.ensures.bytes c.clear.ensures.passed r;
}

pub returns-in_err-byte-clause-lines : goal.returns-in_err-byte-clause-lines
returns-in_err-byte-clause-lines g c = λ given handed r.
    let l0 = g.S.Source.left c.args.source.now in
    let l1 = g.S.Source.left c.bytes.source in
    let l2 = g.S.Source.left c.next.new.source in
    let s : Script = record { chunk = c.next.new.self; piece = c.bytes.self.piece; ended = c.bytes.self.ended } in
    let is : c.from_residual.result ≡ Err Source = search rules in
    answers_is l0 l2 s given handed c.from_residual.result (Err Source) is
    (answers_fault l0 l2 s given handed
    (taken l0 l1 l2 c.bytes.self.chunk c.next.new.self c.bytes.self.piece given handed None (c.bytes.invariant.lines given handed r) c.in_err-byte.ensures.bytes))

pub bytes-preserved : goal.bytes-preserved
bytes-preserved g c = record {
  open_still = c.bytes.invariant.open_still;
  faults = c.in_ok-byte.ensures.cause.kept ∙ c.bytes.invariant.faults;
  lines = λ given handed r.
      let l0 = g.S.Source.left c.args.source.now in
      let l1 = g.S.Source.left c.bytes.source in
      let l2 = g.S.Source.left c.next.new.source in
      let p = c.bytes.self.piece in
      let q = c.push.new.self in
      let t = taken_is l0 l2 c.next.new.self p given handed c.in_ok-byte.field-0 (Some c.in-Some.byte) c.in-Some.is
      (taken l0 l1 l2 c.bytes.self.chunk c.next.new.self p given handed c.in_ok-byte.field-0 (c.bytes.invariant.lines given handed r) c.in_ok-byte.ensures.bytes) in
      let is : c.push.result ≡ Ok false = search rules in
      since_more l0 l2 c.next.new.self p q given handed c.in-Some.byte t
      (pushed_is q t.bytes c.in-Some.byte handed c.push.result (Ok false) is (c.push.ensures.pushed t.bytes handed t.cuts));
}

pub returns-in-Ok-true-clause-lines : goal.returns-in-Ok-true-clause-lines
returns-in-Ok-true-clause-lines g c = λ given handed r.
    let l0 = g.S.Source.left c.args.source.now in
    let l1 = g.S.Source.left c.bytes.source in
    let l2 = g.S.Source.left c.next.new.source in
    let p = c.bytes.self.piece in
    let q = c.push.new.self in
    let t = taken_is l0 l2 c.next.new.self p given handed c.in_ok-byte.field-0 (Some c.in-Some.byte) c.in-Some.is
    (taken l0 l1 l2 c.bytes.self.chunk c.next.new.self p given handed c.in_ok-byte.field-0 (c.bytes.invariant.lines given handed r) c.in_ok-byte.ensures.bytes) in
    let s : Script = record { chunk = c.next.new.self; piece = q; ended = c.bytes.self.ended } in
    let is : c.push.result ≡ Ok true = search rules in
    answers_push l0 l2 s p given handed c.in-Some.byte (Ok true) c.bytes.invariant.open_still t (λ e. absurd (cc e)) (λ e. absurd (cc e))
    (pushed_is q t.bytes c.in-Some.byte handed c.push.result (Ok true) is (c.push.ensures.pushed t.bytes handed t.cuts))

pub returns-in-Err-clause-lines : goal.returns-in-Err-clause-lines
returns-in-Err-clause-lines g c = λ given handed r.
    let l0 = g.S.Source.left c.args.source.now in
    let l1 = g.S.Source.left c.bytes.source in
    let l2 = g.S.Source.left c.next.new.source in
    let p = c.bytes.self.piece in
    let q = c.push.new.self in
    let t = taken_is l0 l2 c.next.new.self p given handed c.in_ok-byte.field-0 (Some c.in-Some.byte) c.in-Some.is
    (taken l0 l1 l2 c.bytes.self.chunk c.next.new.self p given handed c.in_ok-byte.field-0 (c.bytes.invariant.lines given handed r) c.in_ok-byte.ensures.bytes) in
    let s : Script = record { chunk = c.next.new.self; piece = q; ended = c.bytes.self.ended } in
    answers_push l0 l2 s p given handed c.in-Some.byte (Err c.in-Err.fault) c.bytes.invariant.open_still t (λ e. absurd (cc e)) (λ e. c.push.ensures.others (c.in-Err.is ∙ e))
    (pushed_is q t.bytes c.in-Some.byte handed c.push.result (Err c.in-Err.fault) c.in-Err.is (c.push.ensures.pushed t.bytes handed t.cuts))

pub returns-clause-lines : goal.returns-clause-lines
returns-clause-lines g c = λ given handed r.
    let l0 = g.S.Source.left c.args.source.now in
    let l1 = g.S.Source.left c.bytes.source in
    let l2 = g.S.Source.left c.next.new.source in
    let s : Script = record { chunk = c.next.new.self; piece = c.bytes.self.piece; ended = true } in
    let is : c.in_ok-byte.field-0 ≡ None = search rules in
    answers_end l0 l2 s given handed c.has_text.result c.has_text.ensures refl c.bytes.self.piece.limit
    (taken_is l0 l2 c.next.new.self c.bytes.self.piece given handed c.in_ok-byte.field-0 None is
    (taken l0 l1 l2 c.bytes.self.chunk c.next.new.self c.bytes.self.piece given handed c.in_ok-byte.field-0 (c.bytes.invariant.lines given handed r) c.in_ok-byte.ensures.bytes))
