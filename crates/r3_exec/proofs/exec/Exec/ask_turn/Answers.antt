use Rattle.std.proofs.Common.{◌≡◌, ℕ, ◌≤◌, ⊎_elim, List, [], ◌∷◌, length, take, Option, Some, None, Ok, Err, arith, sym, ap, ◌∙◌, subst}
use Rattle.std.proofs.lemmas.List.{take_all}
use Rattle.std.specs.declared.result.Result.{Result}
use Rattle.r3_value.specs.declared.value.Outcome.{Outcome}
use Rattle.r3_entry.specs.declared.entry.Entry.{Entry}
use Rattle.r3_entry.specs.Image.{IsHistoryOf}
use Rattle.r3_desk.specs.Asked as desk
use Rattle.r3_desk.specs.Asked.{asked_after}
use Rattle.r3_desk.specs.Disk.{told_len}
use Rattle.r3_desk.specs.declared.desk.AskFault.{AskFault}
use Rattle.r3_desk.specs.declared.desk.AskFault.TheVariants as asks
use Rattle.r3_model.specs.Event.{Call, Turn}
use Rattle.r3_model.specs.Event as reply
use Rattle.fn_tree.specs.declared.program.Item.{Item}
use Rattle.r3_model.specs.Functions.{language_of}
use Rattle.r3_model.specs.Goes.{Steps}
use Rattle.r3_model.specs.Language.{Text}
use Rattle.r3_model.specs.Machine.{calls_of}
use Rattle.r3_exec.specs.Does.{told_after}
use Rattle.r3_exec.specs.Ends.{turn_reply}
use Rattle.r3_exec.specs.Entered.{state_after}
use Rattle.r3_exec.specs.Runs.{Runs, language}
use Rattle.r3_exec.proofs.Asking.{by_ask, leaves_on, told_more}
use Rattle.r3_exec.proofs.Doing.{told_none}
use Rattle.r3_exec.proofs.Syncs.{no_more}
use Rattle.r3_exec.proofs.TurnGives.{fails, one_call}
use Rattle.r3_exec.proofs.Discarding.{nothing_done}
use Rattle.r3_exec.proofs.exec.Exec.ask_turn.Goals as goal

-- the call, as it is told
told_as : (old new : Option (List desk.Call)) (id id' : Text) (n : ℕ) (name name' : Text) (args : _) (r : Result Outcome AskFault) (r' : Result Outcome AskFault)
    → new ≡ asked_after old id' n name' args r → id' ≡ id → name' ≡ name → r ≡ r' → new ≡ asked_after old id n name args r'
told_as old new id id' n name name' args r r' is same_id same_name same =
    is ∙ ap (λ (x : Text). asked_after old x n name' args r) same_id ∙ ap (λ (x : Text). asked_after old id n x args r) same_name ∙ ap (λ (x : Result Outcome AskFault). asked_after old id n name args x) same

pub returns-in-Err-Fault-clause-does : goal.returns-in-Err-Fault-clause-does
returns-in-Err-Fault-clause-does g c = λ st k runs called.
    let P = language c.args.self.now in
    let q = c.args.request.now in
    let id = c.args.id.now in
    let call : Call = record { id = id; n = q.n; name = q.name; args = q.args; answer = None } in
    record {
      calls = call ∷ [];
      after = st;
      steps = record { answer = None; is = fails P st id q called };
      told = told_as (g.D.Desk.asked c.args.desk.now) (g.D.Desk.asked c.ask.new.self) id c.as_str.result.now q.n q.name c.as_str-2.result.now q.args c.ask.result (Err asks.Fault)
          c.ask.ensures.asked c.as_str.ensures.text c.as_str-2.ensures.text (c.in-Err-Fault.is ∙ ap (λ (f : AskFault). Err f) c.in-Err-Fault.field-0-is);
      runs = record { stands = runs.stands; holds = c.holds_beside_the_disk.ensures c.args.desk.now c.ask.new.self c.args.self.now.store st.history (length st.history) c.ask.ensures.same_size c.ask.ensures.image c.ask.ensures.pending runs.holds };
      few_syncs = no_more (g.D.Desk.syncs c.args.desk.now) (g.D.Desk.syncs c.ask.new.self) c.ask.ensures.syncs 2;
    }

pub returns-in-Ok-record_turn-clause-does : goal.returns-in-Ok-record_turn-clause-does
returns-in-Ok-record_turn-clause-does g c = λ st k runs called.
    let P = language c.args.self.now in
    let q = c.args.request.now in
    let id = c.args.id.now in
    let o = c.in-Ok.outcome in
    let call : Call = record { id = id; n = q.n; name = q.name; args = q.args; answer = Some o } in
    let asked_runs : Runs g.D.Desk.size g.D.Desk.image g.D.Desk.may_leave c.ask.new.self c.args.self.now st (length st.history) =
    record { stands = runs.stands; holds = c.holds_beside_the_disk.ensures c.args.desk.now c.ask.new.self c.args.self.now.store st.history (length st.history) c.ask.ensures.same_size c.ask.ensures.image c.ask.ensures.pending runs.holds } in
    let rec = c.in-Ok-record_turn.ensures.recorded st (length st.history) asked_runs called in
    let after = state_after st rec.entry rec.entered in
    record {
      calls = call ∷ [];
      after = after;
      steps = subst (λ (items : List Item). Steps (language_of items) st (Turn id) (turn_reply c.in-Ok-record_turn.end) (call ∷ []) after) (sym c.record_turn.ensures.program) (record {
        answer = Some o;
        is = rec.come.step
            ∙ ap (λ (r : reply.Reply). record { state = after; reply = r; calls = calls_of P st.history (Turn id) (Some o) }) (sym rec.reply_is)
            ∙ ap (λ (cs : List Call). record { state = after; reply = turn_reply c.in-Ok-record_turn.end; calls = cs }) (one_call P st id (Some o) q called.1);
      });
      told = c.record_turn.ensures.asked ∙ told_as (g.D.Desk.asked c.args.desk.now) (g.D.Desk.asked c.ask.new.self) id c.as_str.result.now q.n q.name c.as_str-2.result.now q.args c.ask.result (Ok o)
          c.ask.ensures.asked c.as_str.ensures.text c.as_str-2.ensures.text c.in-Ok.is;
      runs = rec.come.runs;
      few_syncs = no_more (g.D.Desk.syncs c.args.desk.now) (g.D.Desk.syncs c.record_turn.new.desk) (c.record_turn.ensures.syncs ∙ c.ask.ensures.syncs) 2;
    }

-- what is read and what a crash leaves once it was asked
pub returns-in-Ok-record_turn-clause-reads : goal.returns-in-Ok-record_turn-clause-reads
returns-in-Ok-record_turn-clause-reads g c = λ st runs image told.
    let asked_runs : Runs g.D.Desk.size g.D.Desk.image g.D.Desk.may_leave c.ask.new.self c.args.self.now st (length st.history) =
    record { stands = runs.stands; holds = c.holds_beside_the_disk.ensures c.args.desk.now c.ask.new.self c.args.self.now.store st.history (length st.history) c.ask.ensures.same_size c.ask.ensures.image c.ask.ensures.pending runs.holds } in
    ⊎_elim (λ all. all) (λ t. subst (λ (l : List Entry). IsHistoryOf l image) (take_all (length st.history) st.history (omega arith)) t)
    (c.record_turn.ensures.reads st (length st.history) asked_runs image told)

pub returns-in-Err-clause-reads : goal.returns-in-Err-clause-reads
returns-in-Err-clause-reads g c = λ st runs image told.
    let asked_runs : Runs g.D.Desk.size g.D.Desk.image g.D.Desk.may_leave c.ask.new.self c.args.self.now st (length st.history) =
    record { stands = runs.stands; holds = c.holds_beside_the_disk.ensures c.args.desk.now c.ask.new.self c.args.self.now.store st.history (length st.history) c.ask.ensures.same_size c.ask.ensures.image c.ask.ensures.pending runs.holds } in
    ⊎_elim (λ all. all) (λ t. subst (λ (l : List Entry). IsHistoryOf l image) (take_all (length st.history) st.history (omega arith)) t)
    (c.record_turn.ensures.reads st (length st.history) asked_runs image told)

pub returns-in-Err-Fault-clause-reads : goal.returns-in-Err-Fault-clause-reads
returns-in-Err-Fault-clause-reads g c = λ st runs image told.
    let holds = c.holds_beside_the_disk.ensures c.args.desk.now c.ask.new.self c.args.self.now.store st.history (length st.history) c.ask.ensures.same_size c.ask.ensures.image c.ask.ensures.pending runs.holds in
    subst (λ (l : List Entry). IsHistoryOf l image) (take_all (length st.history) st.history (omega arith))
    (c.reads_as_settled.ensures.read c.ask.new.self c.args.self.now.store st.history (length st.history) image holds told)

pub returns-in-Err-Memory-clause-reads : goal.returns-in-Err-Memory-clause-reads
returns-in-Err-Memory-clause-reads g c = λ st runs image told.
    let holds = c.holds_beside_the_disk.ensures c.args.desk.now c.ask.new.self c.args.self.now.store st.history (length st.history) c.ask.ensures.same_size c.ask.ensures.image c.ask.ensures.pending runs.holds in
    subst (λ (l : List Entry). IsHistoryOf l image) (take_all (length st.history) st.history (omega arith))
    (c.reads_as_settled.ensures.read c.ask.new.self c.args.self.now.store st.history (length st.history) image holds told)

pub returns-in-Ok-record_turn-clause-crash : goal.returns-in-Ok-record_turn-clause-crash
returns-in-Ok-record_turn-clause-crash g c = λ st runs.
    let h = st.history in
    let q = c.args.request.now in
    let call : Call = record { id = c.args.id.now; n = q.n; name = q.name; args = q.args; answer = Some c.in-Ok.outcome } in
    let asked_runs : Runs g.D.Desk.size g.D.Desk.image g.D.Desk.may_leave c.ask.new.self c.args.self.now st (length h) =
    record { stands = runs.stands; holds = c.holds_beside_the_disk.ensures c.args.desk.now c.ask.new.self c.args.self.now.store h (length h) c.ask.ensures.same_size c.ask.ensures.image c.ask.ensures.pending runs.holds } in
    let told : g.D.Desk.asked c.ask.new.self ≡ told_after (g.D.Desk.asked c.args.desk.now) (call ∷ []) =
    told_as (g.D.Desk.asked c.args.desk.now) (g.D.Desk.asked c.ask.new.self) c.args.id.now c.as_str.result.now q.n q.name c.as_str-2.result.now q.args c.ask.result (Ok c.in-Ok.outcome)
    c.ask.ensures.asked c.as_str.ensures.text c.as_str-2.ensures.text c.in-Ok.is in
    leaves_on g.D.Desk.may_leave g.D.Desk.moment g.D.Desk.reach g.D.Desk.said g.D.Desk.asked c.args.desk.now c.ask.new.self c.record_turn.new.desk h (length h) c.ask.ensures.said
    (subst (λ (o : Option (List desk.Call)). told_len (g.D.Desk.asked c.args.desk.now) ≤ told_len o) (sym told) (told_more (g.D.Desk.asked c.args.desk.now) (call ∷ [])))
    (subst (λ (o : Option (List desk.Call)). told_len (g.D.Desk.asked c.ask.new.self) ≤ told_len o) (sym c.record_turn.ensures.asked) (omega arith))
    (by_ask g.D.Desk.may_leave g.D.Desk.moment g.D.Desk.reach g.D.Desk.said g.D.Desk.asked c.args.desk.now c.ask.new.self h c.ask.ensures.time c.ask.ensures.said
    (λ image was. subst (λ (l : List Entry). IsHistoryOf l image) (take_all (length h) h (omega arith)) (c.reads_as_settled.ensures.crash c.args.desk.now c.args.self.now.store h (length h) image runs.holds was)) c.ask.ensures.pending)
    (c.record_turn.ensures.crash st (length h) asked_runs)

pub returns-in-Err-clause-crash : goal.returns-in-Err-clause-crash
returns-in-Err-clause-crash g c = λ st runs.
    let h = st.history in
    let q = c.args.request.now in
    let call : Call = record { id = c.args.id.now; n = q.n; name = q.name; args = q.args; answer = Some c.in-Ok.outcome } in
    let asked_runs : Runs g.D.Desk.size g.D.Desk.image g.D.Desk.may_leave c.ask.new.self c.args.self.now st (length h) =
    record { stands = runs.stands; holds = c.holds_beside_the_disk.ensures c.args.desk.now c.ask.new.self c.args.self.now.store h (length h) c.ask.ensures.same_size c.ask.ensures.image c.ask.ensures.pending runs.holds } in
    let told : g.D.Desk.asked c.ask.new.self ≡ told_after (g.D.Desk.asked c.args.desk.now) (call ∷ []) =
    told_as (g.D.Desk.asked c.args.desk.now) (g.D.Desk.asked c.ask.new.self) c.args.id.now c.as_str.result.now q.n q.name c.as_str-2.result.now q.args c.ask.result (Ok c.in-Ok.outcome)
    c.ask.ensures.asked c.as_str.ensures.text c.as_str-2.ensures.text c.in-Ok.is in
    leaves_on g.D.Desk.may_leave g.D.Desk.moment g.D.Desk.reach g.D.Desk.said g.D.Desk.asked c.args.desk.now c.ask.new.self c.record_turn.new.desk h (length h) c.ask.ensures.said
    (subst (λ (o : Option (List desk.Call)). told_len (g.D.Desk.asked c.args.desk.now) ≤ told_len o) (sym told) (told_more (g.D.Desk.asked c.args.desk.now) (call ∷ [])))
    (subst (λ (o : Option (List desk.Call)). told_len (g.D.Desk.asked c.ask.new.self) ≤ told_len o) (sym c.record_turn.ensures.asked) (omega arith))
    (by_ask g.D.Desk.may_leave g.D.Desk.moment g.D.Desk.reach g.D.Desk.said g.D.Desk.asked c.args.desk.now c.ask.new.self h c.ask.ensures.time c.ask.ensures.said
    (λ image was. subst (λ (l : List Entry). IsHistoryOf l image) (take_all (length h) h (omega arith)) (c.reads_as_settled.ensures.crash c.args.desk.now c.args.self.now.store h (length h) image runs.holds was)) c.ask.ensures.pending)
    (c.record_turn.ensures.crash st (length h) asked_runs)

pub returns-in-Err-Fault-clause-crash : goal.returns-in-Err-Fault-clause-crash
returns-in-Err-Fault-clause-crash g c = λ st runs.
    let h = st.history in
    by_ask g.D.Desk.may_leave g.D.Desk.moment g.D.Desk.reach g.D.Desk.said g.D.Desk.asked c.args.desk.now c.ask.new.self h c.ask.ensures.time c.ask.ensures.said
    (λ image was. subst (λ (l : List Entry). IsHistoryOf l image) (take_all (length h) h (omega arith)) (c.reads_as_settled.ensures.crash c.args.desk.now c.args.self.now.store h (length h) image runs.holds was)) c.ask.ensures.pending

pub returns-in-Err-Memory-clause-crash : goal.returns-in-Err-Memory-clause-crash
returns-in-Err-Memory-clause-crash g c = λ st runs.
    let h = st.history in
    by_ask g.D.Desk.may_leave g.D.Desk.moment g.D.Desk.reach g.D.Desk.said g.D.Desk.asked c.args.desk.now c.ask.new.self h c.ask.ensures.time c.ask.ensures.said
    (λ image was. subst (λ (l : List Entry). IsHistoryOf l image) (take_all (length h) h (omega arith)) (c.reads_as_settled.ensures.crash c.args.desk.now c.args.self.now.store h (length h) image runs.holds was)) c.ask.ensures.pending

-- what was asked where it ended early
pub returns-in-Err-clause-early : goal.returns-in-Err-clause-early
returns-in-Err-clause-early g c = λ st runs called.
    let q = c.args.request.now in
    let call : Call = record { id = c.args.id.now; n = q.n; name = q.name; args = q.args; answer = Some c.in-Ok.outcome } in
    let told : g.D.Desk.asked c.ask.new.self ≡ told_after (g.D.Desk.asked c.args.desk.now) (call ∷ []) =
    told_as (g.D.Desk.asked c.args.desk.now) (g.D.Desk.asked c.ask.new.self) c.args.id.now c.as_str.result.now q.n q.name c.as_str-2.result.now q.args c.ask.result (Ok c.in-Ok.outcome)
    c.ask.ensures.asked c.as_str.ensures.text c.as_str-2.ensures.text c.in-Ok.is in
    let calls = one_call (language c.args.self.now) st c.args.id.now (Some c.in-Ok.outcome) q called.1 in
    (Some c.in-Ok.outcome, 1, c.record_turn.ensures.asked ∙ told ∙ ap (λ (cs : List Call). told_after (g.D.Desk.asked c.args.desk.now) (take 1 cs)) (sym calls))

pub returns-in-Err-Memory-clause-early : goal.returns-in-Err-Memory-clause-early
returns-in-Err-Memory-clause-early g c = λ st runs called.
    let q = c.args.request.now in
    let told : g.D.Desk.asked c.ask.new.self ≡ g.D.Desk.asked c.args.desk.now =
    told_as (g.D.Desk.asked c.args.desk.now) (g.D.Desk.asked c.ask.new.self) c.args.id.now c.as_str.result.now q.n q.name c.as_str-2.result.now q.args c.ask.result (Err asks.Memory)
    c.ask.ensures.asked c.as_str.ensures.text c.as_str-2.ensures.text (c.in-Err-Memory.is ∙ ap (λ (f : AskFault). Err f) c.in-Err-Memory.field-0-is) in
    (None, 0, told ∙ told_none (g.D.Desk.asked c.args.desk.now))

pub returns-in-Err-Fault-clause-discards : goal.returns-in-Err-Fault-clause-discards
returns-in-Err-Fault-clause-discards g c = nothing_done c.args.self.now
