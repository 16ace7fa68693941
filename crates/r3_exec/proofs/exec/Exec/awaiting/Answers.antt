use Rattle.std.proofs.Common.{ap, ◌∙◌}
use Rattle.r3_turns.specs.Drafts.{given_by}
use Rattle.r3_turns.specs.declared.awaits.AwaitDraft.{AwaitDraft}
use Rattle.r3_exec.specs.Runs.{language}
use Rattle.r3_exec.proofs.Turnings.{await_comes}
use Rattle.r3_exec.proofs.exec.Exec.awaiting.Goals as goal

pub returns-in-Ok-Waiting : goal.returns-in-Ok-Waiting
returns-in-Ok-Waiting c = λ h stands.
    await_comes (language c.args.self.now) h c.args.id.now c.args.request.now _ c.requires.kind
    (c.in-Ok-Waiting.ensures (language c.args.self.now) h stands ∙ ap (λ (d : AwaitDraft). given_by h d) c.in-Ok-Waiting.field-0-is)

pub returns-in-Ok-Enters : goal.returns-in-Ok-Enters
returns-in-Ok-Enters c = λ h stands.
    await_comes (language c.args.self.now) h c.args.id.now c.args.request.now _ c.requires.kind
    (c.in-Ok-Enters.ensures (language c.args.self.now) h stands ∙ ap (λ (d : AwaitDraft). given_by h d) c.in-Ok-Enters.field-0-is)
