use Rattle.std.proofs.Common.{take, option_map}
use Rattle.live_version.specs.Terms.{terms_from, terms_of}
use Rattle.live_version.proofs.TermLemmas.{IsFound}
use Rattle.live_version.proofs.version.Version.term_from.Given as goal

-- the least term of the slots so far
abbrev pub invariant-loop-slot : goal.invariant-loop-slot
invariant-loop-slot l = IsFound (terms_from (terms_of (take l.slot-index l.slots)) l.low l.strict) (option_map (λ term. term.now) l.least)
