-- Fewer rounds of a chain's operands take no more look-ups.
use Rattle.std.proofs.Common.{ℕ, ◌+◌, ◌*◌, ◌≤◌, arith, le_refl}
use Rattle.std.proofs.Math.Nat.{mul-le-mul_left, mul-le-mul_right}
use Rattle.gcl_model.specs.Texts.{Text}
use Rattle.gcl_model.specs.Forms.{Form, term, phrase, width, both, one, seq, containing, contained_in, not_containing, not_contained_in}
use Rattle.gcl_model.specs.Cost.{cost, costs}
use Rattle.gcl_eval.specs.Costs.{cost_in, near_cost}

pub cost_in_le : (rounds : ℕ) → rounds ≤ 4 → (text : Text) (most : ℕ) (form : Form) → cost_in rounds text most form ≤ cost text most form
cost_in_le rounds le text most (term token) = le_refl most
cost_in_le rounds le text most (phrase tokens) = le_refl (cost text most (phrase tokens))
cost_in_le rounds le text most (width n) = le_refl 0
cost_in_le rounds le text most (both forms) = mul-le-mul_right (costs text most forms) le
cost_in_le rounds le text most (one forms) = mul-le-mul_right (costs text most forms) le
cost_in_le rounds le text most (seq forms) = mul-le-mul_right (costs text most forms) le
cost_in_le rounds le text most (containing a b) = le_refl (cost text most (containing a b))
cost_in_le rounds le text most (contained_in a b) = le_refl (cost text most (contained_in a b))
cost_in_le rounds le text most (not_containing a b) = le_refl (cost text most (not_containing a b))
cost_in_le rounds le text most (not_contained_in a b) = le_refl (cost text most (not_contained_in a b))

-- what is within a number of near accesses is within that many accesses
pub within_cost : (text : Text) (most : ℕ) (form : Form) (old new accesses : ℕ) → new ≤ old + accesses * near_cost text most form → new ≤ old + accesses * cost text most form
within_cost text most form old new accesses le =
    let more : accesses * near_cost text most form ≤ accesses * cost text most form = mul-le-mul_left accesses (cost_in_le 2 (omega arith) text most form) in
    omega arith
