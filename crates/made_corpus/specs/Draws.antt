-- Numbers that are drawn one after the other.
use Rattle.std.specs.Prelude.{ℕ, zero, suc, ◌+◌, ◌*◌, ◌/◌, ◌%◌, ◌^◌}

-- the state after the next draw
abbrev pub next_state : ℕ → ℕ
next_state state = (6364136223846793005 * state + 1442695040888963407) % 2 ^ 64

-- the number below a bound that the draw after this state gives: after 0, below 100, it is 7
abbrev pub draw : ℕ → ℕ → ℕ
draw state below = next_state state / 2 ^ 33 % below

-- the state after the given number of draws
abbrev pub state_after : ℕ → ℕ → ℕ
state_after zero state = state
state_after (suc n) state = state_after n (next_state state)
