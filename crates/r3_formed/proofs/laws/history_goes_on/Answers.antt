use Rattle.std.proofs.Common.{◌≡◌, ℕ, ◌+◌, ◌∙◌, ap, refl, arith, length, ◌++◌}
use Rattle.r3_formed.specs.Answers.{program_texts, text_at}
use Rattle.r3_formed.proofs.Grows.{grown}
use Rattle.r3_formed.proofs.LoadLaws.{texts_push}
use Rattle.r3_formed.proofs.Ready.{ready}
use Rattle.r3_formed.proofs.laws.history_goes_on.Goals as goal

pub returns-clause-ready : goal.returns-clause-ready
returns-clause-ready c = λ es h oldest e room stand sorted made. ready es h oldest (length h + 1) room e.writes stand refl made sorted

pub returns-clause-versions : goal.returns-clause-versions
returns-clause-versions c = λ es h oldest e stand. grown es h e oldest stand

pub returns-clause-texts : goal.returns-clause-texts
returns-clause-texts c = λ h e.
    texts_push 1 h e ∙ ap (λ (n : ℕ). program_texts h ++ text_at n e.act) (let z : 1 + length h ≡ length h + 1 = omega arith in z)
