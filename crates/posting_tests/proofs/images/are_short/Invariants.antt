use Rattle.std.proofs.Common.{◌^◌, ◌<◌, List, ℕ, length, drop}
use Rattle.std.specs.List.{AllByRecursion}
use Rattle.posting_tests.proofs.images.are_short.Given as goal

-- if those that are left are short, all are
abbrev pub invariant-loop-token : goal.invariant-loop-token
invariant-loop-token l = AllByRecursion (λ (t : List ℕ). length t < 2 ^ 56) (drop l.token-index l.fn.tokens) → AllByRecursion (λ (t : List ℕ). length t < 2 ^ 56) l.fn.tokens
