-- The list of each containment is a filter of the list of its first operand.
use Rattle.std.proofs.Common.{◌≡◌, not, filter}
use Rattle.gcl_model.specs.Extents.{covers, is_inside, all_extents}
use Rattle.gcl_model.specs.Texts.{Text}
use Rattle.gcl_model.specs.Forms.{Form, containing, contained_in, not_containing, not_contained_in}
use Rattle.gcl_model.specs.Meaning.{concordance, denotes}
use Rattle.gcl_model.proofs.Meanings.{filter_and}

pub containing_list : (text : Text) (a b : Form) → concordance text (containing a b) ≡ filter (covers (concordance text b)) (concordance text a)
containing_list text a b = filter_and (denotes text a) (covers (concordance text b)) (all_extents text.first text.next)

pub contained_in_list : (text : Text) (a b : Form) → concordance text (contained_in a b) ≡ filter (is_inside (concordance text b)) (concordance text a)
contained_in_list text a b = filter_and (denotes text a) (is_inside (concordance text b)) (all_extents text.first text.next)

pub not_containing_list : (text : Text) (a b : Form) → concordance text (not_containing a b) ≡ filter (λ c. not (covers (concordance text b) c)) (concordance text a)
not_containing_list text a b = filter_and (denotes text a) (λ c. not (covers (concordance text b) c)) (all_extents text.first text.next)

pub not_contained_in_list : (text : Text) (a b : Form) → concordance text (not_contained_in a b) ≡ filter (λ c. not (is_inside (concordance text b) c)) (concordance text a)
not_contained_in_list text a b = filter_and (denotes text a) (λ c. not (is_inside (concordance text b) c)) (all_extents text.first text.next)
