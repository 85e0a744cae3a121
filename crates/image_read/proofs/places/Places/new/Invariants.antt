use Rattle.image_read.proofs.StretchLemmas.{AreCounted}
use Rattle.image_read.proofs.places.Places.new.Given as goal

-- where the files so far lie is noted, with how many addresses they have, which are not too many
abbrev pub invariant-loop-file : goal.invariant-loop-file
invariant-loop-file l = AreCounted l.files l.file-index l.stretches.items l.total l.most
