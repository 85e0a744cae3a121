use Rattle.prefix_leaves.proofs.asking.wide_number.Given as goal

-- the version that is asked
abbrev pub ghosts-number_of : goal.ghosts-number_of
ghosts-number_of g a = record { version = a.version.now }
