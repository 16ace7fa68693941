use Rattle.r3_plain.proofs.turn.turn_of.Given as goal

-- the ledger of the blank that is handed in
abbrev pub ghosts-counted : goal.ghosts-counted
ghosts-counted a = record { name = a.blank.name; parts = a.blank.parts }
