use Rattle.gcl_contain.proofs.Advance.{containing_advances, contained_in_advances, not_containing_advances, not_contained_in_advances, containing_back_advances, contained_in_back_advances, not_containing_back_advances, not_contained_in_back_advances}
use Rattle.gcl_contain.proofs.laws.rejecting_turns_advance.Goals as goal

pub returns : goal.returns
returns c = record {
  containing = containing_advances;
  contained_in = contained_in_advances;
  not_containing = not_containing_advances;
  not_contained_in = not_contained_in_advances;
  containing_back = containing_back_advances;
  contained_in_back = contained_in_back_advances;
  not_containing_back = not_containing_back_advances;
  not_contained_in_back = not_contained_in_back_advances;
}
