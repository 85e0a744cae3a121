use Rattle.std.proofs.Common.{◌≡◌, map, length}
use Rattle.gcl_model.specs.Tokens.{tokens_of}
use Rattle.text_search.specs.Matching.{with_matches}
use Rattle.text_search.proofs.matching.put_matches.Given as goal

-- the words so far, and then the tokens that are still to come, are as all of them put among the first words
abbrev pub invariant-loop-token : goal.invariant-loop-token
invariant-loop-token l = with_matches l.prefix (map (λ t. t.token) l.cursor) l.words.items ≡ with_matches l.prefix (tokens_of l.bytes) l.fn.words.items

abbrev pub decreases-loop-token : goal.decreases-loop-token
decreases-loop-token l = length l.cursor
