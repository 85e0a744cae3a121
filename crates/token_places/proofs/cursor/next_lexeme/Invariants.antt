use Rattle.std.proofs.Common.{◌≡◌, ◌≤◌, ℕ, length}
use Rattle.token_places.specs.Cursors.{placed_behind}
use Rattle.token_places.proofs.cursor.next_lexeme.Given as goal

-- what was passed gave no token
abbrev pub invariant-loop-lexeme : goal.invariant-loop-lexeme
invariant-loop-lexeme l = record { within : length l.rest ≤ length l.bytes; same : (n : ℕ) → length l.bytes ≤ n → placed_behind n l.bytes ≡ placed_behind n l.rest }

abbrev pub decreases-loop-lexeme : goal.decreases-loop-lexeme
decreases-loop-lexeme l = length l.rest
