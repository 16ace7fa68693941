use Rattle.std.proofs.Common.{rules, refl, arith, ap, ◌∙◌, ◌+◌, ◌≤◌, ◌≡◌, ◌++◌, [], ◌∷◌, Some, List, length}
use Rattle.std.proofs.lemmas.List.{length-append}
use Rattle.r3_desk.proofs.Kept.{goes_failed, goes_done, syncs_failed, syncs_done, syncs_more, before_push, length-overwritten, pending_failed, pending_write, state_write, image_write, fits_write}
use Rattle.r3_desk.specs.Fails.{past_room}
use Rattle.r3_desk.specs.Disk.{overwritten}
use Rattle.r3_desk.specs.Memory.{State}
use Rattle.r3_desk.specs.declared.step.Step.{Step}
use Rattle.r3_desk.specs.declared.step.Step.TheVariants.{Idle, Write, Sync, Say, Ask}
use Rattle.r3_desk.proofs.memory.device.MemDeskDesk.write_at.Goals as goal

pub returns-then-not-admit-clause-time : goal.returns-then-not-admit-clause-time
returns-then-not-admit-clause-time c = goes_failed c.args.self.now _ _ refl c.if-not-admit.ensures.steps refl (omega arith) (omega arith)

pub returns-then-not-admit-clause-syncs : goal.returns-then-not-admit-clause-syncs
returns-then-not-admit-clause-syncs c = syncs_failed c.args.self.now.calls.steps.items _ (past_room c.args.self.now.calls.room c.args.self.now.calls.made (c.len.result + c.len-2.result + length c.args.bytes.now)) c.if-not-admit.ensures.steps

pub returns-then-not-admit-clause-pending : goal.returns-then-not-admit-clause-pending
returns-then-not-admit-clause-pending c = pending_failed c.args.self.now.first.items c.args.self.now.calls.steps.items _ c.args.self.now.written.items (past_room c.args.self.now.calls.room c.args.self.now.calls.made (c.len.result + c.len-2.result + length c.args.bytes.now)) c.args.at (length c.args.bytes.now) c.if-not-admit.ensures.steps

pub returns-clause-time : goal.returns-clause-time
returns-clause-time c =
    let added : c.extend_from_slice.new.self.items ≡ c.args.self.now.written.items ++ c.args.bytes.now = search rules in
    goes_done c.args.self.now _ _ (Write c.args.at (length c.args.bytes.now)) refl c.if-not-admit.ensures.steps c.record.ensures.steps (before_push _ c.args.bytes.now _ added) (omega arith) (omega arith)

pub returns-clause-pending : goal.returns-clause-pending
returns-clause-pending c =
    let le : c.args.at ≤ length c.args.self.now.image.items = c.requires _ refl in
    let added : c.extend_from_slice.new.self.items ≡ c.args.self.now.written.items ++ c.args.bytes.now = search rules in
    pending_write c.args.self.now.first.items c.args.self.now.calls.steps.items c.args.self.now.written.items c.args.at c.args.bytes.now _ _ c.args.self.now.image.items (c.record.ensures.steps ∙ ap (λ (l : List Step). l ++ Write c.args.at (length c.args.bytes.now) ∷ []) c.if-not-admit.ensures.steps) added c.args.self.now.image_told le

pub returns-clause-syncs : goal.returns-clause-syncs
returns-clause-syncs c = syncs_done c.args.self.now.calls.steps.items _ _ (Write c.args.at (length c.args.bytes.now)) c.if-not-admit.ensures.steps c.record.ensures.steps refl

pub invariant_of-self-2-clause-image_told : goal.invariant_of-self-2-clause-image_told
invariant_of-self-2-clause-image_told c =
    let d = c.args.self.now in
    let added : c.extend_from_slice.new.self.items ≡ d.written.items ++ c.args.bytes.now = search rules in
    let now : c.overwrite.new.image.items ≡ overwritten d.image.items c.args.at c.args.bytes.now = search rules in
    image_write d.first.items d.calls.steps.items d.written.items _ _ c.extend_from_slice.new.self.items c.args.at c.args.bytes.now c.if-not-admit.ensures.steps c.record.ensures.steps added d.image.items _ d.image_told now

pub invariant_of-self-2-clause-said_told : goal.invariant_of-self-2-clause-said_told
invariant_of-self-2-clause-said_told c =
    let d = c.args.self.now in
    let added : c.extend_from_slice.new.self.items ≡ d.written.items ++ c.args.bytes.now = search rules in
    ap (λ (s : State). s.said) (state_write d.first.items d.calls.steps.items d.written.items _ _ c.extend_from_slice.new.self.items c.args.at c.args.bytes.now c.if-not-admit.ensures.steps c.record.ensures.steps added) ∙ d.said_told

pub invariant_of-self-2-clause-asked_told : goal.invariant_of-self-2-clause-asked_told
invariant_of-self-2-clause-asked_told c =
    let d = c.args.self.now in
    let added : c.extend_from_slice.new.self.items ≡ d.written.items ++ c.args.bytes.now = search rules in
    ap (λ (s : State). s.asked) (state_write d.first.items d.calls.steps.items d.written.items _ _ c.extend_from_slice.new.self.items c.args.at c.args.bytes.now c.if-not-admit.ensures.steps c.record.ensures.steps added) ∙ d.asked_told

pub invariant_of-self-2-clause-fitting : goal.invariant_of-self-2-clause-fitting
invariant_of-self-2-clause-fitting c =
    let d = c.args.self.now in
    let added : c.extend_from_slice.new.self.items ≡ d.written.items ++ c.args.bytes.now = search rules in
    let le : c.args.at ≤ length d.image.items = c.requires _ refl in
    fits_write d.first.items d.calls.steps.items d.written.items _ _ c.extend_from_slice.new.self.items c.args.at c.args.bytes.now c.if-not-admit.ensures.steps c.record.ensures.steps added d.image.items d.image_told le d.fitting
