use Rattle.fn_cases.proofs.cases.plain_flow.Given as goal

-- the ledger of the blank that is handed in
abbrev pub ghosts-counted_flow : goal.ghosts-counted_flow
ghosts-counted_flow a = record { name = a.blank.name; parts = a.blank.parts }
