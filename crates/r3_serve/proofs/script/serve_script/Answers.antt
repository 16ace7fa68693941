use Rattle.std.proofs.Common.{rules, ◌++◌, ap}
use Rattle.std.specs.Prelude.{Err}
use Rattle.r3_serve.specs.declared.fault.ServeFault.{ServeFault}
use Rattle.r3_serve.proofs.Scripting.{read_all, stops-first, stops-here, no-more, at-end, too-long, source-fails, one-more, stops-within, fails-within}
use Rattle.r3_serve.proofs.script.serve_script.Goals as goal

pub returns-in-Err-clause-stops : goal.returns-in-Err-clause-stops
returns-in-Err-clause-stops g c = λ from text h lines script s is.
    stops-first g.D.Desk.size g.D.Desk.image g.D.Desk.may_leave g.D.Desk.moment g.D.Desk.reach g.D.Desk.said g.D.Desk.asked from c.args.desk.now c.args.session.now.exec text h lines script s

pub serve_line-requires-clause-served : goal.serve_line-requires-clause-served
serve_line-requires-clause-served g c =
    let going = c.lines.invariant.going in
    let r = c.requires.served in
    (r.0, r.1, r.2, r.3 ++ read_all going.handed, going.serves r.0 r.1 r.2 r.3 r.4)

pub returns-in-Ok-false-clause-serves : goal.returns-in-Ok-false-clause-serves
returns-in-Ok-false-clause-serves g c =
    let going = c.lines.invariant.going in
    no-more g.D.Desk.size g.D.Desk.image g.D.Desk.may_leave g.D.Desk.moment g.D.Desk.reach g.D.Desk.said g.D.Desk.asked _ _ _ _ _ _ _ _ (g.S.Source.ended c.next_line.new.source) _ _
    going c.in-Ok-false.field-0 c.in-Ok-false.field-0-test (c.in-Ok-false.ensures.lines going.given going.handed going.reads) (c.in-Ok-false.ensures.end going.ends)

pub returns-in-Ok-false-clause-ended : goal.returns-in-Ok-false-clause-ended
returns-in-Ok-false-clause-ended g c =
    let going = c.lines.invariant.going in
    at-end g.D.Desk.size g.D.Desk.image g.D.Desk.may_leave g.D.Desk.moment g.D.Desk.reach g.D.Desk.said g.D.Desk.asked _ _ _ _ _ _ _ _ (g.S.Source.ended c.next_line.new.source) _ _
    going c.in-Ok-false.field-0 c.in-Ok-false.field-0-test (c.in-Ok-false.ensures.lines going.given going.handed going.reads) (c.in-Ok-false.ensures.end going.ends)

pub returns-in-Err-Source-clause-source : goal.returns-in-Err-Source-clause-source
returns-in-Err-Source-clause-source g c = λ from text h lines s _.
    let going = c.lines.invariant.going in
    source-fails g.D.Desk.size g.D.Desk.image g.D.Desk.may_leave g.D.Desk.moment g.D.Desk.reach g.D.Desk.said g.D.Desk.asked _ _ _ _ _ _ _ _ (g.S.Source.ended c.next_line.new.source) _ _
    going c.in-Err-Source.field-0 c.in-Err-Source.field-0-is (c.in-Err-Source.ensures.lines going.given going.handed going.reads) from text h lines s

pub returns-in-Err-TooLong-clause-long : goal.returns-in-Err-TooLong-clause-long
returns-in-Err-TooLong-clause-long g c = λ from text h lines script s is _.
    let going = c.lines.invariant.going in
    too-long g.D.Desk.size g.D.Desk.image g.D.Desk.may_leave g.D.Desk.moment g.D.Desk.reach g.D.Desk.said g.D.Desk.asked _ _ _ _ _ _ _ _ (g.S.Source.ended c.next_line.new.source) _ _
    going c.in-Err-TooLong.field-0 c.in-Err-TooLong.field-0-is (c.in-Err-TooLong.ensures.lines going.given going.handed going.reads) from text h lines script s is

pub returns-in-Err-Source-clause-stops : goal.returns-in-Err-Source-clause-stops
returns-in-Err-Source-clause-stops g c = stops-here g.D.Desk.size g.D.Desk.image g.D.Desk.may_leave g.D.Desk.moment g.D.Desk.reach g.D.Desk.said g.D.Desk.asked _ _ _ _ _ _ (g.S.Source.left c.lines.source) _ (g.S.Source.ended c.lines.source) _ c.lines.script c.lines.invariant.going

pub returns-in-Err-TooLong-clause-stops : goal.returns-in-Err-TooLong-clause-stops
returns-in-Err-TooLong-clause-stops g c = stops-here g.D.Desk.size g.D.Desk.image g.D.Desk.may_leave g.D.Desk.moment g.D.Desk.reach g.D.Desk.said g.D.Desk.asked _ _ _ _ _ _ (g.S.Source.left c.lines.source) _ (g.S.Source.ended c.lines.source) _ c.lines.script c.lines.invariant.going

pub returns-in-Err-Memory-clause-stops : goal.returns-in-Err-Memory-clause-stops
returns-in-Err-Memory-clause-stops g c = stops-here g.D.Desk.size g.D.Desk.image g.D.Desk.may_leave g.D.Desk.moment g.D.Desk.reach g.D.Desk.said g.D.Desk.asked _ _ _ _ _ _ (g.S.Source.left c.lines.source) _ (g.S.Source.ended c.lines.source) _ c.lines.script c.lines.invariant.going

pub returns-clause-stops : goal.returns-clause-stops
returns-clause-stops g c = stops-here g.D.Desk.size g.D.Desk.image g.D.Desk.may_leave g.D.Desk.moment g.D.Desk.reach g.D.Desk.said g.D.Desk.asked _ _ _ _ _ _ (g.S.Source.left c.lines.source) _ (g.S.Source.ended c.lines.source) _ c.lines.script c.lines.invariant.going

pub returns-in-Err-Disk-clause-stops : goal.returns-in-Err-Disk-clause-stops
returns-in-Err-Disk-clause-stops g c =
    let going = c.lines.invariant.going in
    stops-within g.D.Desk.size g.D.Desk.image g.D.Desk.may_leave g.D.Desk.moment g.D.Desk.reach g.D.Desk.said g.D.Desk.asked _ _ _ _ _ _ _ _ (g.S.Source.ended c.next_line.new.source) _ _
    going c.in-Ok-true.field-0 c.in-Ok-true.field-0-test (c.in-Ok-true.ensures.lines going.given going.handed going.reads) (c.in-Ok-true.ensures.end going.ends)
    c.line.result.now c.line.ensures c.serve_line.new.desk c.serve_line.new.session.exec c.serve_line.ensures.program c.in-Err-Disk.ensures.stops

pub returns-in-Err-Memory-serve_line-clause-stops : goal.returns-in-Err-Memory-serve_line-clause-stops
returns-in-Err-Memory-serve_line-clause-stops g c =
    let going = c.lines.invariant.going in
    stops-within g.D.Desk.size g.D.Desk.image g.D.Desk.may_leave g.D.Desk.moment g.D.Desk.reach g.D.Desk.said g.D.Desk.asked _ _ _ _ _ _ _ _ (g.S.Source.ended c.next_line.new.source) _ _
    going c.in-Ok-true.field-0 c.in-Ok-true.field-0-test (c.in-Ok-true.ensures.lines going.given going.handed going.reads) (c.in-Ok-true.ensures.end going.ends)
    c.line.result.now c.line.ensures c.serve_line.new.desk c.serve_line.new.session.exec c.serve_line.ensures.program c.in-Err-Memory-serve_line.ensures.stops

pub returns-in-Err-Say-clause-stops : goal.returns-in-Err-Say-clause-stops
returns-in-Err-Say-clause-stops g c =
    let going = c.lines.invariant.going in
    stops-within g.D.Desk.size g.D.Desk.image g.D.Desk.may_leave g.D.Desk.moment g.D.Desk.reach g.D.Desk.said g.D.Desk.asked _ _ _ _ _ _ _ _ (g.S.Source.ended c.next_line.new.source) _ _
    going c.in-Ok-true.field-0 c.in-Ok-true.field-0-test (c.in-Ok-true.ensures.lines going.given going.handed going.reads) (c.in-Ok-true.ensures.end going.ends)
    c.line.result.now c.line.ensures c.serve_line.new.desk c.serve_line.new.session.exec c.serve_line.ensures.program c.in-Err-Say.ensures.stops

pub returns-in-Err-Say-clause-say_whole : goal.returns-in-Err-Say-clause-say_whole
returns-in-Err-Say-clause-say_whole g c = λ from text h lines script s at _.
    let going = c.lines.invariant.going in
    fails-within g.D.Desk.size g.D.Desk.image g.D.Desk.may_leave g.D.Desk.moment g.D.Desk.reach g.D.Desk.said g.D.Desk.asked _ _ _ _ _ _ _ _ (g.S.Source.ended c.next_line.new.source) _ _
    going c.in-Ok-true.field-0 c.in-Ok-true.field-0-test (c.in-Ok-true.ensures.lines going.given going.handed going.reads) (c.in-Ok-true.ensures.end going.ends)
    c.line.result.now c.line.ensures c.serve_line.new.desk (λ f t e ls is. c.in-Err-Say.ensures.say_whole f t e ls is (ap (λ (x : ServeFault). Err x) c.in-Err-Say.field-0-is))
    from text h lines script s at

pub lines-preserved : goal.lines-preserved
lines-preserved g c =
    let going = c.lines.invariant.going in
    record {
      going = one-more g.D.Desk.size g.D.Desk.image g.D.Desk.may_leave g.D.Desk.moment g.D.Desk.reach g.D.Desk.said g.D.Desk.asked _ _ _ _ _ _ _ _ (g.S.Source.ended c.next_line.new.source) _ _
          going c.in-Ok-true.field-0 c.in-Ok-true.field-0-test (c.in-Ok-true.ensures.lines going.given going.handed going.reads) (c.in-Ok-true.ensures.end going.ends)
          c.line.result.now c.line.ensures c.serve_line.new.desk c.serve_line.new.session.exec c.serve_line.ensures.program c.in-Ok-serve_line.ensures.serves;
      whole = search rules;
      disk = search rules;
      say = search rules;
      input = search rules;
    }
