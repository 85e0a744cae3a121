use Rattle.prefix_leaves.proofs.asking.wide_page.Given as goal

-- the version that is asked
abbrev pub ghosts-page_of : goal.ghosts-page_of
ghosts-page_of g a = record { version = a.version.now }
