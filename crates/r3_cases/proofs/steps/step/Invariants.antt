use Rattle.r3_cases.proofs.steps.step.Given as goal

-- the ledger of the blank that is handed in
abbrev pub ghosts-step_of : goal.ghosts-step_of
ghosts-step_of g a = record { name = a.blank.name; parts = a.blank.parts }
