use Rattle.gcl_model.proofs.questions.uncounted.Given as goal

-- the counter is the one that the call makes
abbrev pub ghosts-ask_uncounted : goal.ghosts-ask_uncounted
ghosts-ask_uncounted g a = record { name = a.blank.name; parts = a.blank.parts }
