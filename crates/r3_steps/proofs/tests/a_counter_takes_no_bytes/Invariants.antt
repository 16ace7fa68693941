use Rattle.r3_steps.proofs.tests.a_counter_takes_no_bytes.Given as goal

-- the ledger of the blank that is handed in
abbrev pub ghosts-size_after_two_steps : goal.ghosts-size_after_two_steps
ghosts-size_after_two_steps g a = record { name = a.blank.name; parts = a.blank.parts }
