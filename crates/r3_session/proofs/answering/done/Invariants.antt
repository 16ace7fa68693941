use Rattle.r3_session.proofs.answering.done.Given as goal

-- the ledger of the blank that is handed in
abbrev pub ghosts-counted : goal.ghosts-counted
ghosts-counted g a = record { name = a.blank.name; parts = a.blank.parts }
