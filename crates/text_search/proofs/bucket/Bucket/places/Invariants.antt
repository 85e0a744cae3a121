use Rattle.std.proofs.Common.{◌≡◌, drop}
use Rattle.text_search.specs.Tables.{places_in}
use Rattle.text_search.proofs.bucket.Bucket.places.Given as goal

-- none so far is the token
abbrev pub invariant-loop-term : goal.invariant-loop-term
invariant-loop-term l = places_in (drop l.term-index l.self) l.token ≡ places_in l.self l.token
