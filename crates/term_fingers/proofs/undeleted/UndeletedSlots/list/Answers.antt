use Rattle.term_fingers.proofs.undeleted.UndeletedSlots.list.Goals as goal

pub returns-clause-slot : goal.returns-clause-slot
returns-clause-slot g c = c.new.ensures.slot

pub returns-clause-place : goal.returns-clause-place
returns-clause-place g c = c.new.ensures.place
