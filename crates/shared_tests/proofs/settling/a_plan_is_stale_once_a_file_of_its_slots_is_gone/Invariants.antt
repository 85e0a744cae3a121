use Rattle.shared_tests.proofs.settling.a_plan_is_stale_once_a_file_of_its_slots_is_gone.Given as goal

-- the three ledgers that were just made
abbrev pub ghosts-settled_counted-A-Ledger : goal.ghosts-settled_counted-A-Ledger
ghosts-settled_counted-A-Ledger g a = record { name = a.added.name; parts = a.added.parts }

abbrev pub ghosts-settled_counted-G-Ledger : goal.ghosts-settled_counted-G-Ledger
ghosts-settled_counted-G-Ledger g a = record { name = a.gone.name; parts = a.gone.parts }

abbrev pub ghosts-settled_counted-S-Ledger : goal.ghosts-settled_counted-S-Ledger
ghosts-settled_counted-S-Ledger g a = record { name = a.refused.name; parts = a.refused.parts }
