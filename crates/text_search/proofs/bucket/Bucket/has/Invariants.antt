use Rattle.std.proofs.Common.{◌≡◌, drop}
use Rattle.text_search.specs.Names.{is_named}
use Rattle.text_search.specs.Tables.{tokens_in}
use Rattle.text_search.proofs.bucket.Bucket.has.Given as goal

-- none so far is the token
abbrev pub invariant-loop-term : goal.invariant-loop-term
invariant-loop-term l = is_named (tokens_in (drop l.term-index l.self)) l.token ≡ is_named (tokens_in l.self) l.token
