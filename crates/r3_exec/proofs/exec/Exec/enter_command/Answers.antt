use Rattle.std.proofs.Common.{◌+◌, length, None, sym, refl}
use Rattle.r3_model.specs.Event.{Run}
use Rattle.r3_commands.specs.Drafts.{reply_of}
use Rattle.r3_exec.specs.Runs.{language}
use Rattle.r3_exec.proofs.Commanding.{gives}
use Rattle.r3_exec.proofs.Doing.{by_entry}
use Rattle.r3_exec.proofs.Leaving.{by_images_settled}
use Rattle.r3_exec.proofs.exec.Exec.enter_command.Goals as goal

pub enter-requires : goal.enter-requires
enter-requires g c =
    let x = c.requires.runs in
    let r = reply_of (length x.0.history + 1) c.args.id in
    record {
      gives = (
        x.0,
        x.1,
        Run c.args.command.now,
        None,
        r,
        x.2,
        gives (language c.args.self.now) x.0 c.args.command.now c.args.entry r
            x.2.stands.valid c.requires.given (sym (c.requires.drafted x.0.history x.2.stands.keeps.store)),
      );
    }

pub returns-in-Ok-clause-does : goal.returns-in-Ok-clause-does
returns-in-Ok-clause-does g c = λ st k runs.
    let r = reply_of (length st.history + 1) c.args.id in
    let does = gives (language c.args.self.now) st c.args.command.now c.args.entry r
    runs.stands.valid c.requires.given (sym (c.requires.drafted st.history runs.stands.keeps.store)) in
    let come = c.in-Ok.ensures.come st k (Run c.args.command.now) None r runs does in
    by_entry g.D.Desk.size g.D.Desk.image g.D.Desk.may_leave g.D.Desk.asked g.D.Desk.syncs _ _ c.args.self.now c.enter.new.self st k (Run c.args.command.now) None c.args.entry r c.in-Ok.entered _
    come refl c.enter.ensures.asked c.enter.ensures.syncs c.enter.ensures.program (c.command_end.ensures st.history come.number)

pub returns-in-Ok-clause-crash : goal.returns-in-Ok-clause-crash
returns-in-Ok-clause-crash g c = λ st k runs.
    by_images_settled g.D.Desk.may_leave g.D.Desk.moment g.D.Desk.reach g.D.Desk.said g.D.Desk.asked _ _ st.history k c.enter.ensures.asked (c.enter.ensures.crash st k runs)

pub returns-in-Err-clause-crash : goal.returns-in-Err-clause-crash
returns-in-Err-clause-crash g c = λ st k runs.
    by_images_settled g.D.Desk.may_leave g.D.Desk.moment g.D.Desk.reach g.D.Desk.said g.D.Desk.asked _ _ st.history k c.enter.ensures.asked (c.enter.ensures.crash st k runs)

pub returns-in-Ok-clause-staged : goal.returns-in-Ok-clause-staged
returns-in-Ok-clause-staged g c = c.enter.ensures.crash

pub returns-in-Ok-clause-reads_settled : goal.returns-in-Ok-clause-reads_settled
returns-in-Ok-clause-reads_settled g c = c.enter.ensures.reads
