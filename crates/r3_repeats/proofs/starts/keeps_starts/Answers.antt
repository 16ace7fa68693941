use Rattle.r3_repeats.proofs.Growing.{grows-keeps, run-grows}
use Rattle.r3_repeats.proofs.Firsts.{first-grown, each-has_first}
use Rattle.r3_model.specs.Run.{run}
use Rattle.r3_repeats.proofs.starts.keeps_starts.Goals as goal

pub returns-clause-keeps : goal.returns-clause-keeps
returns-clause-keeps c P t evs id row there = grows-keeps P t.state.history (run P t evs).state.history id row (run-grows P t evs) there

pub returns-clause-first : goal.returns-clause-first
returns-clause-first c P t evs id k row first = first-grown P t.state.history (run P t evs).state.history id k row (run-grows P t evs) first

pub returns-clause-found : goal.returns-clause-found
returns-clause-found c = each-has_first
