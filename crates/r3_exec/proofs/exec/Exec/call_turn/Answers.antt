use Rattle.std.proofs.Common.{◌≡◌, ◌≤◌, List, length, Option, None, arith, inl, inr, sym, ap, ◌∙◌, subst}
use Rattle.r3_desk.specs.Asked as desk
use Rattle.r3_desk.specs.Disk.{told_len}
use Rattle.fn_tree.specs.declared.program.Item.{Item}
use Rattle.r3_model.specs.Functions.{language_of}
use Rattle.r3_model.specs.Event.{Call, Turn}
use Rattle.r3_model.specs.Machine.{Out}
use Rattle.r3_exec.specs.Does.{AskedFirst, told_after}
use Rattle.r3_exec.specs.Runs.{language}
use Rattle.r3_exec.specs.Turning.{IsCalled}
use Rattle.r3_exec.proofs.Asking.{leaves_on, told_more}
use Rattle.r3_exec.proofs.Doing.{told_none}
use Rattle.r3_exec.proofs.TurnGives.{one_call}
use Rattle.r3_exec.proofs.Discarding.{closes_behind}
use Rattle.r3_exec.proofs.exec.Exec.call_turn.Goals as goal

pub ask_turn-requires : goal.ask_turn-requires
ask_turn-requires g c =
    let x = c.requires.runs in
    let st = x.0 in
    record {
      called = (
        st,
        c.in-Ok.ensures.settled st x.1 x.2,
        subst (λ (items : List Item). IsCalled (language_of items) st c.args.id.now c.args.request.now) (sym c.settle.ensures.program) (c.requires.comes st.history x.2.stands.keeps.store),
      );
    }

pub returns-in-Ok-ask_turn-clause-does : goal.returns-in-Ok-ask_turn-clause-does
returns-in-Ok-ask_turn-clause-does g c = λ st k runs.
    let id = c.args.id.now in
    let q = c.args.request.now in
    let called = c.requires.comes st.history runs.stands.keeps.store in
    let then = subst (λ (items : List Item). IsCalled (language_of items) st id q) (sym c.settle.ensures.program) called in
    let last = subst (λ (items : List Item). IsCalled (language_of items) st id q) (sym (c.ask_turn.ensures.program ∙ c.settle.ensures.program)) called in
    let d = c.in-Ok-ask_turn.ensures.does st k (c.in-Ok.ensures.settled st k runs) then in
    let one : length d.calls ≡ 1 = sym (ap (λ (o : Out). length o.calls) d.steps.is) ∙ ap (λ (cs : List Call). length cs) (one_call (language c.ask_turn.new.self) st id d.steps.answer q last.1) in
    let s = c.settle.ensures.few_syncs in
    record {
      calls = d.calls;
      after = d.after;
      steps = d.steps;
      told = d.told ∙ ap (λ (o : Option (List desk.Call)). told_after o d.calls) c.settle.ensures.asked;
      runs = d.runs;
      few_syncs = (s.0, omega (arith, s.1, one), c.ask_turn.ensures.syncs ∙ s.2);
    }

pub returns-in-Ok-ask_turn-clause-crash : goal.returns-in-Ok-ask_turn-clause-crash
returns-in-Ok-ask_turn-clause-crash g c = λ st k runs.
    let then = subst (λ (items : List Item). IsCalled (language_of items) st c.args.id.now c.args.request.now) (sym c.settle.ensures.program) (c.requires.comes st.history runs.stands.keeps.store) in
    let settled = c.in-Ok.ensures.settled st k runs in
    let d = c.in-Ok-ask_turn.ensures.does st k settled then in
    leaves_on g.D.Desk.may_leave g.D.Desk.moment g.D.Desk.reach g.D.Desk.said g.D.Desk.asked c.args.desk.now c.settle.new.desk c.ask_turn.new.desk st.history k c.settle.ensures.said
    (subst (λ (o : Option (List desk.Call)). told_len (g.D.Desk.asked c.args.desk.now) ≤ told_len o) (sym c.settle.ensures.asked) (omega arith))
    (subst (λ (o : Option (List desk.Call)). told_len (g.D.Desk.asked c.settle.new.desk) ≤ told_len o) (sym d.told) (told_more (g.D.Desk.asked c.settle.new.desk) d.calls))
    (c.settle.ensures.crash st k runs) (c.ask_turn.ensures.crash st settled)

pub returns-in-Err-ask_turn-clause-crash : goal.returns-in-Err-ask_turn-clause-crash
returns-in-Err-ask_turn-clause-crash g c = λ st k runs.
    let then = subst (λ (items : List Item). IsCalled (language_of items) st c.args.id.now c.args.request.now) (sym c.settle.ensures.program) (c.requires.comes st.history runs.stands.keeps.store) in
    let settled = c.in-Ok.ensures.settled st k runs in
    let e = c.in-Err-ask_turn.ensures.early st settled then in
    leaves_on g.D.Desk.may_leave g.D.Desk.moment g.D.Desk.reach g.D.Desk.said g.D.Desk.asked c.args.desk.now c.settle.new.desk c.ask_turn.new.desk st.history k c.settle.ensures.said
    (subst (λ (o : Option (List desk.Call)). told_len (g.D.Desk.asked c.args.desk.now) ≤ told_len o) (sym c.settle.ensures.asked) (omega arith))
    (subst (λ (o : Option (List desk.Call)). told_len (g.D.Desk.asked c.settle.new.desk) ≤ told_len o) (sym e.2) (told_more (g.D.Desk.asked c.settle.new.desk) _))
    (c.settle.ensures.crash st k runs) (c.ask_turn.ensures.crash st settled)

pub returns-in-Ok-ask_turn-clause-reads : goal.returns-in-Ok-ask_turn-clause-reads
returns-in-Ok-ask_turn-clause-reads g c = λ st k runs image told.
    inl (c.ask_turn.ensures.reads st (c.in-Ok.ensures.settled st k runs) image told)

pub returns-in-Err-ask_turn-clause-reads : goal.returns-in-Err-ask_turn-clause-reads
returns-in-Err-ask_turn-clause-reads g c = λ st k runs image told.
    inl (c.ask_turn.ensures.reads st (c.in-Ok.ensures.settled st k runs) image told)

pub returns-in-Err-ask_turn-clause-early : goal.returns-in-Err-ask_turn-clause-early
returns-in-Err-ask_turn-clause-early g c = λ st k runs.
    let id = c.args.id.now in
    let then = subst (λ (items : List Item). IsCalled (language_of items) st id c.args.request.now) (sym c.settle.ensures.program) (c.requires.comes st.history runs.stands.keeps.store) in
    let e = c.in-Err-ask_turn.ensures.early st (c.in-Ok.ensures.settled st k runs) then in
    subst (λ (o : Option (List desk.Call)). AskedFirst (language c.args.self.now) st (Turn id) o (g.D.Desk.asked c.ask_turn.new.desk)) c.settle.ensures.asked
    (subst (λ (items : List Item). AskedFirst (language_of items) st (Turn id) (g.D.Desk.asked c.settle.new.desk) (g.D.Desk.asked c.ask_turn.new.desk)) c.settle.ensures.program e)

pub returns-in-Err-clause-early : goal.returns-in-Err-clause-early
returns-in-Err-clause-early g c = λ st k runs. (None, 0, c.settle.ensures.asked ∙ told_none (g.D.Desk.asked c.args.desk.now))

-- what was asked where it failed
pub returns-in-Err-ask_turn-clause-asked_kept : goal.returns-in-Err-ask_turn-clause-asked_kept
returns-in-Err-ask_turn-clause-asked_kept g c = λ st k runs. inr (c.ask_turn.ensures.reads st (c.in-Ok.ensures.settled st k runs))

pub returns-in-Err-clause-asked_kept : goal.returns-in-Err-clause-asked_kept
returns-in-Err-clause-asked_kept g c = λ st k runs. inl c.settle.ensures.asked

pub returns-in-Ok-ask_turn-clause-few_syncs : goal.returns-in-Ok-ask_turn-clause-few_syncs
returns-in-Ok-ask_turn-clause-few_syncs g c =
    let s = c.settle.ensures.few_syncs in
    (s.0, s.1, c.ask_turn.ensures.syncs ∙ s.2)

pub returns-in-Err-ask_turn-clause-few_syncs : goal.returns-in-Err-ask_turn-clause-few_syncs
returns-in-Err-ask_turn-clause-few_syncs g c =
    let s = c.settle.ensures.few_syncs in
    (s.0, s.1, c.ask_turn.ensures.syncs ∙ s.2)

pub returns-in-Ok-ask_turn-clause-discards : goal.returns-in-Ok-ask_turn-clause-discards
returns-in-Ok-ask_turn-clause-discards g c = closes_behind c.args.self.now c.settle.new.self c.ask_turn.new.self c.settle.ensures.others c.in-Ok-ask_turn.ensures.discards
