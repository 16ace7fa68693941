use Rattle.fn_eval.proofs.tests.expressions_end_as_they_mean.Given as goal

-- the ledger of the blank that is handed in
abbrev pub ghosts-compare : goal.ghosts-compare
ghosts-compare g a = record { name = a.blank.name; parts = a.blank.parts }
