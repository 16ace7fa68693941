use Rattle.std.proofs.Common.{rules, refl, List, ◌∙◌, arith, ap, ◌+◌, ◌≤◌, ◌≡◌, ◌++◌, [], ◌∷◌, length, drop, min, sym}
use Rattle.std.proofs.lemmas.Grind.{common_steps}
use Rattle.std.proofs.lemmas.List.{length-append, drop-drop, drop_min}
use Rattle.r3_desk.proofs.Kept.{goes_step, goes_none, syncs_same, longer}
use Rattle.r3_desk.specs.declared.step.Step.TheVariants.{Ask}
use Rattle.r3_desk.specs.declared.step.Step.{Step}
use Rattle.r3_desk.proofs.memory.device.MemDeskDesk.ask.Goals as goal

pub returns-in_err-reserve-clause-time : goal.returns-in_err-reserve-clause-time
returns-in_err-reserve-clause-time c = goes_none c.args.self.now _ refl c.reserve.ensures.steps refl (omega arith) (omega arith)

pub returns-in_err-reserve-2-clause-time : goal.returns-in_err-reserve-2-clause-time
returns-in_err-reserve-2-clause-time c = goes_none c.args.self.now _ refl c.reserve.ensures.steps refl (omega arith) (omega (arith, ap length c.reserve-2.ensures.items))

pub returns-in_err-id-clause-time : goal.returns-in_err-id-clause-time
returns-in_err-id-clause-time c = goes_none c.args.self.now _ refl c.reserve.ensures.steps refl (omega arith) (omega (arith, ap length c.reserve-2.ensures.items))

pub returns-in_err-name-clause-time : goal.returns-in_err-name-clause-time
returns-in_err-name-clause-time c = goes_none c.args.self.now _ refl c.reserve.ensures.steps refl (omega arith) (omega (arith, ap length c.reserve-2.ensures.items))

pub returns-in_err-args-clause-time : goal.returns-in_err-args-clause-time
returns-in_err-args-clause-time c = goes_none c.args.self.now _ refl c.reserve.ensures.steps refl (omega arith) (omega (arith, ap length c.reserve-2.ensures.items))

pub returns-in_err-answer-clause-time : goal.returns-in_err-answer-clause-time
returns-in_err-answer-clause-time c = goes_none c.args.self.now _ refl c.reserve.ensures.steps refl (omega arith) (omega (arith, ap length c.reserve-2.ensures.items))

pub returns-in_err-kept-clause-time : goal.returns-in_err-kept-clause-time
returns-in_err-kept-clause-time c = goes_none c.args.self.now _ refl c.reserve.ensures.steps refl (omega arith) (omega (arith, ap length c.reserve-2.ensures.items))

pub returns-then-next_fails-clause-time : goal.returns-then-next_fails-clause-time
returns-then-next_fails-clause-time c =
    let pushed = c.record_ask.ensures.steps ∙ ap (λ (l : List Step). l ++ Ask ∷ []) c.reserve.ensures.steps in
    goes_step c.args.self.now _ Ask refl pushed refl (omega arith) (longer _ _ _ _ c.reserve-2.ensures.items c.push_reserved.ensures.items)

pub returns-then-next_fails-clause-syncs : goal.returns-then-next_fails-clause-syncs
returns-then-next_fails-clause-syncs c = syncs_same c.args.self.now.calls.steps.items _ Ask (c.record_ask.ensures.steps ∙ ap (λ (l : List Step). l ++ Ask ∷ []) c.reserve.ensures.steps) refl

pub returns-clause-time : goal.returns-clause-time
returns-clause-time c =
    let pushed = c.record_ask-2.ensures.steps ∙ ap (λ (l : List Step). l ++ Ask ∷ []) c.reserve.ensures.steps in
    goes_step c.args.self.now _ Ask refl pushed refl (omega arith) (longer _ _ _ _ c.reserve-2.ensures.items c.push_reserved-2.ensures.items)

pub returns-clause-syncs : goal.returns-clause-syncs
returns-clause-syncs c = syncs_same c.args.self.now.calls.steps.items _ Ask (c.record_ask-2.ensures.steps ∙ ap (λ (l : List Step). l ++ Ask ∷ []) c.reserve.ensures.steps) refl

pub returns-clause-exact : goal.returns-clause-exact
returns-clause-exact c =
    let d = c.args.self.now in
    let given : drop (min (d.given + 1) (length d.answers.items)) d.answers.items ≡ drop 1 (drop d.given d.answers.items) =
    drop_min (d.given + 1) d.answers.items ∙ sym (drop-drop 1 d.given d.answers.items) in
    grind (arith, common_steps)
