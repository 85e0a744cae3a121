use Rattle.shared_tests.proofs.flags.two_editors_that_wait_for_each_other_go_on.Given as goal

-- the three ledgers that were just made
abbrev pub ghosts-added-A-Ledger : goal.ghosts-added-A-Ledger
ghosts-added-A-Ledger g a = record { name = a.added.name; parts = a.added.parts }

abbrev pub ghosts-added-G-Ledger : goal.ghosts-added-G-Ledger
ghosts-added-G-Ledger g a = record { name = a.gone.name; parts = a.gone.parts }

abbrev pub ghosts-added-S-Ledger : goal.ghosts-added-S-Ledger
ghosts-added-S-Ledger g a = record { name = a.refused.name; parts = a.refused.parts }
