use Rattle.fn_cases.proofs.cases.plain_txn.Given as goal

-- the ledger of the blank that is handed in
abbrev pub ghosts-counted_txn : goal.ghosts-counted_txn
ghosts-counted_txn a = record { name = a.blank.name; parts = a.blank.parts }
