-- The laws of the turns, over any two lists whose members rise.
use Rattle.std.specs.Prelude.{◌≡◌, ℕ, ◌<◌, ◌≤◌, Bool, true, false, List, Some}
use Rattle.std.specs.List.{AllByRecursion}
use Rattle.gcl_model.specs.Extents.{Extent, contains_extent, IsAhead, IsRising}
use Rattle.gcl_contain.specs.Moves.{Move, accept, go_to, finish}
use Rattle.gcl_contain.specs.Kinds.{Kind, first_from, last_upto}

-- c begins and ends no earlier than a: (2, 5) and (1, 4) itself do for (1, 4)
abbrev pub IsFromOn : Extent → Extent → Type 0
IsFromOn a c = (a.start ≤ c.start) × (a.end ≤ c.end)

-- forward: a is kept if it is accepted; a leap to k goes forward, and no member at or after a that lies before k is kept; and no member
-- at or after a is kept if the loop finishes; if only (2, 5) is kept, the leap from (1, 2) to 4 is right by ends
abbrev pub IsRightForward : (Extent → ℕ) → (Extent → Bool) → List Extent → Extent → Move → Type 0
IsRightForward place keeps members a accept = keeps a ≡ true
IsRightForward place keeps members a (go_to k) =
    (keeps a ≡ false) × (place a < k) × AllByRecursion (λ c. IsFromOn a c → place c < k → keeps c ≡ false) members
IsRightForward place keeps members a finish = (keeps a ≡ false) × AllByRecursion (λ c. IsFromOn a c → keeps c ≡ false) members

-- backward: the same with the order reversed; if only (2, 5) is kept, the leap from (5, 8) to 4 is right by starts
abbrev pub IsRightBackward : (Extent → ℕ) → (Extent → Bool) → List Extent → Extent → Move → Type 0
IsRightBackward place keeps members a accept = keeps a ≡ true
IsRightBackward place keeps members a (go_to k) =
    (keeps a ≡ false) × (k < place a) × AllByRecursion (λ c. IsFromOn c a → k < place c → keeps c ≡ false) members
IsRightBackward place keeps members a finish = (keeps a ≡ false) × AllByRecursion (λ c. IsFromOn c a → keeps c ≡ false) members

-- at each member a kind's move is right, by what the second operand answers there: with (4, 4) "containing" leaps from (1, 2) to 4
abbrev pub ForwardIsRight : Kind → Type 0
ForwardIsRight kind = (members others : List Extent) (a : Extent) → IsRising others → IsRightForward kind.place (kind.keeps others) members a (kind.move a (kind.ask others a))

-- and backward: with (4, 4) "containing" leaps from (5, 8) to 4
abbrev pub BackwardIsRight : Kind → Type 0
BackwardIsRight kind = (members others : List Extent) (a : Extent) → IsRising others → IsRightBackward kind.place (kind.keeps others) members a (kind.move a (kind.ask others a))

-- a turn that goes on: the second operand answers b at a, and the loop goes on at k; with (4, 4) "containing" goes on from (1, 2) at 4
pub record Rejects (kind : Kind) (others : List Extent) (a b : Extent) (k : ℕ) : Type 0 where
  pub asked : kind.ask others a ≡ Some b
  pub goes : kind.move a (Some b) ≡ go_to k

-- of two successive turns that both go on, the second has a later member of each list: after (1, 2) with (4, 4) comes none
-- with (4, 4) again
abbrev pub ForwardAdvances : Kind → Type 0
ForwardAdvances kind = (members others : List Extent) (a b next_a next_b : Extent) (k next_k : ℕ) → IsRising members → IsRising others → contains_extent members a ≡ true →
    Rejects kind others a b k → first_from kind members k ≡ Some next_a → Rejects kind others next_a next_b next_k → IsAhead a next_a × IsAhead b next_b

-- and backward an earlier one: after (5, 8) with (4, 4) comes none with (4, 4) again
abbrev pub BackwardAdvances : Kind → Type 0
BackwardAdvances kind = (members others : List Extent) (a b next_a next_b : Extent) (k next_k : ℕ) → IsRising members → IsRising others → contains_extent members a ≡ true →
    Rejects kind others a b k → last_upto kind members k ≡ Some next_a → Rejects kind others next_a next_b next_k → IsAhead next_a a × IsAhead next_b b
