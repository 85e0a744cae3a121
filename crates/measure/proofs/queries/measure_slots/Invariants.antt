use Rattle.measure.proofs.queries.measure_slots.Given as goal

-- the version itself
abbrev pub ghosts-count_by_fingers : goal.ghosts-count_by_fingers
ghosts-count_by_fingers g a = record { version = a.version.now }
