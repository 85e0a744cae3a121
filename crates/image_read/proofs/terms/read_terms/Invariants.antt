use Rattle.std.proofs.Common.{◌≡◌, ℕ, List, Bor}
use Rattle.std.specs.Option.{option_map}
use Rattle.image_read.specs.Tables.{last_term}
use Rattle.image_read.proofs.TermTracking.{AreTermsRead}
use Rattle.image_read.proofs.terms.read_terms.Given as goal

-- this many terms were read, of which the last is known, and an image of the bytes has these and others
abbrev pub invariant-loop-i : goal.invariant-loop-i
invariant-loop-i l =
    AreTermsRead l.fn.head.format l.fn.head.first l.fn.head.next l.i-end l.fn.places.files l.initial.rest l.i l.maker.table l.places l.rest
    × (l.maker.range ≡ l.fn.range)
    × (option_map (λ (t : Bor (List ℕ)). t.now) l.last ≡ last_term l.maker.table)
