-- The two look-ups in a rising list, how many members are below a number, and how many probes that may take.
use Rattle.std.specs.Prelude.{ℕ, ◌+◌, ◌*◌, ◌^◌, ◌≤◌, nat_le, nat_lt, List, length, filter, find, Option}
use Rattle.gcl_model.specs.Access.{find_last}

-- the least member at or after k: of 2, 5, 9 at or after 3 it is 5, and at or after 10 there is none
abbrev pub least_from : List ℕ → ℕ → Option ℕ
least_from addresses k = find (λ p. nat_le k p) addresses

-- the greatest member at or before k: of 2, 5, 9 up to 3 it is 2, and up to 1 there is none
abbrev pub greatest_to : List ℕ → ℕ → Option ℕ
greatest_to addresses k = find_last (λ p. nat_le p k) addresses

-- how many members are below k: of 2, 5, 9 below 6 they are 2, and below 2 there is none
abbrev pub count_below : List ℕ → ℕ → ℕ
count_below addresses k = length (filter (λ p. nat_lt p k) addresses)

-- a number has c binary digits or more: 5 has three, since 2^3 is at most 11, and not four; 0 has none
abbrev pub HasDigits : ℕ → ℕ → Type 0
HasDigits n c = 2 ^ c ≤ 2 * n + 1

-- a counter rose, by no more than the number has binary digits: by 3 at most for 5
pub record RisesByDigits (n before after : ℕ) : Type 0 where
  pub digits : ℕ
  pub few : HasDigits n digits
  pub most : after ≤ before + digits
  pub rises : before ≤ after
