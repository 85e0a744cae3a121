use Rattle.gcl_contain.proofs.Right.{containing_is_right, contained_in_is_right, not_containing_is_right, not_contained_in_is_right, containing_back_is_right, contained_in_back_is_right, not_containing_back_is_right, not_contained_in_back_is_right}
use Rattle.gcl_contain.proofs.laws.moves_are_right.Goals as goal

pub returns : goal.returns
returns c = record {
  containing = containing_is_right;
  contained_in = contained_in_is_right;
  not_containing = not_containing_is_right;
  not_contained_in = not_contained_in_is_right;
  containing_back = containing_back_is_right;
  contained_in_back = contained_in_back_is_right;
  not_containing_back = not_containing_back_is_right;
  not_contained_in_back = not_contained_in_back_is_right;
}
