use Rattle.gcl_model.proofs.questions.counted.Given as goal

-- the counter is the one that the call makes
abbrev pub ghosts-ask_counted : goal.ghosts-ask_counted
ghosts-ask_counted g a = record { name = a.blank.name; parts = a.blank.parts }
