use Rattle.std.proofs.Common.{rules, refl, arith, ap, ◌∙◌, ◌+◌, ◌≤◌, ◌≡◌, ◌++◌, [], ◌∷◌, Some, List, length}
use Rattle.std.proofs.lemmas.List.{length-append}
use Rattle.r3_desk.proofs.Kept.{goes_failed, goes_done, syncs_failed, syncs_done, syncs_more, before_push, length-overwritten, pending_failed, pending_write, longer}
use Rattle.r3_desk.specs.Fails.{past_room}
use Rattle.r3_desk.specs.declared.step.Step.{Step}
use Rattle.r3_desk.specs.declared.step.Step.TheVariants.{Idle, Write, Sync, Say, Ask}
use Rattle.r3_desk.proofs.memory.device.MemDeskDesk.say.Goals as goal

pub returns-then-not-admit-clause-time : goal.returns-then-not-admit-clause-time
returns-then-not-admit-clause-time c = goes_failed c.args.self.now _ _ refl c.if-not-admit.ensures.steps refl (omega arith) (omega arith)

pub returns-then-not-admit-clause-syncs : goal.returns-then-not-admit-clause-syncs
returns-then-not-admit-clause-syncs c = syncs_failed c.args.self.now.calls.steps.items _ (past_room c.args.self.now.calls.room c.args.self.now.calls.made (c.len.result + c.len-2.result + length c.args.bytes.now)) c.if-not-admit.ensures.steps

pub returns-clause-time : goal.returns-clause-time
returns-clause-time c =
    let said : c.extend_from_slice.new.self.items ≡ c.args.self.now.said.items ++ c.args.bytes.now = search rules in
    goes_done c.args.self.now _ _ (Say (length c.args.bytes.now)) refl c.if-not-admit.ensures.steps c.record.ensures.steps refl (omega (arith, ap length said, length-append c.args.self.now.said.items c.args.bytes.now)) (omega arith)

pub returns-clause-syncs : goal.returns-clause-syncs
returns-clause-syncs c = syncs_done c.args.self.now.calls.steps.items _ _ (Say (length c.args.bytes.now)) c.if-not-admit.ensures.steps c.record.ensures.steps refl
