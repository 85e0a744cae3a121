use Rattle.wide_terms.proofs.expanding.+tree_of_words.Given as goal

-- one level less each time
abbrev pub decreases-tree_of_words : goal.decreases-tree_of_words
decreases-tree_of_words l = l.levels
