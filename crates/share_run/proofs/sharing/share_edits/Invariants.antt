use Rattle.share_run.proofs.sharing.share_edits.Given as goal

-- the three ledgers that were just made
abbrev pub ghosts-share_counted-A-Ledger : goal.ghosts-share_counted-A-Ledger
ghosts-share_counted-A-Ledger g a = record { name = a.added.name; parts = a.added.parts }

abbrev pub ghosts-share_counted-G-Ledger : goal.ghosts-share_counted-G-Ledger
ghosts-share_counted-G-Ledger g a = record { name = a.gone.name; parts = a.gone.parts }

abbrev pub ghosts-share_counted-S-Ledger : goal.ghosts-share_counted-S-Ledger
ghosts-share_counted-S-Ledger g a = record { name = a.refused.name; parts = a.refused.parts }
