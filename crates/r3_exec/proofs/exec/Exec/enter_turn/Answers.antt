use Rattle.std.proofs.Common.{◌+◌, length, None}
use Rattle.r3_model.specs.Event.{Turn}
use Rattle.r3_model.specs.Event as reply
use Rattle.r3_exec.specs.Runs.{language}
use Rattle.r3_exec.proofs.Doing.{by_entry}
use Rattle.r3_exec.proofs.TurnGives.{no_call, of_entry}
use Rattle.r3_exec.proofs.exec.Exec.enter_turn.Goals as goal

pub enter-requires : goal.enter-requires
enter-requires g c =
    let x = c.requires.runs in
    record {
      gives = (
        x.0,
        x.1,
        Turn c.args.id.now,
        None,
        reply.Entry (length x.0.history + 1),
        x.2,
        of_entry (language c.args.self.now) x.0 c.args.id.now c.args.entry (c.requires.comes x.0.history x.2.stands.keeps.store),
      );
    }

pub returns-in-Ok-clause-does : goal.returns-in-Ok-clause-does
returns-in-Ok-clause-does g c = λ st k runs.
    let P = language c.args.self.now in
    let id = c.args.id.now in
    let comes = c.requires.comes st.history runs.stands.keeps.store in
    let come = c.in-Ok.ensures.come st k (Turn id) None (reply.Entry (length st.history + 1)) runs (of_entry P st id c.args.entry comes) in
    by_entry g.D.Desk.size g.D.Desk.image g.D.Desk.may_leave g.D.Desk.asked g.D.Desk.syncs _ _ c.args.self.now c.enter.new.self st k (Turn id) None c.args.entry
    (reply.Entry (length st.history + 1)) c.in-Ok.entered _ come (no_call P st id None comes.1) c.enter.ensures.asked c.enter.ensures.syncs c.enter.ensures.program
    (c.turn_end.ensures.reply st.history come.number)
