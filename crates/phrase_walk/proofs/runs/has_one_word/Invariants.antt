use Rattle.std.proofs.Common.{◌≡◌, true, bytes_eq, take}
use Rattle.std.specs.List.{list_all}
use Rattle.phrase_walk.specs.Starts.{token_at}
use Rattle.phrase_walk.proofs.runs.has_one_word.Given as goal

-- the tokens so far are the first one
abbrev pub invariant-loop-token : goal.invariant-loop-token
invariant-loop-token l = list_all (bytes_eq (token_at l.tokens 0)) (take l.token-index l.tokens) ≡ true
