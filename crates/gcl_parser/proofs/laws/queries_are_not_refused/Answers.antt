use Rattle.gcl_parser.proofs.Derives.{not_refused, is_not_refused}
use Rattle.gcl_parser.proofs.OneForm.{one_form}
use Rattle.gcl_parser.proofs.laws.queries_are_not_refused.Goals as goal

pub returns : goal.returns
returns c = record { not_refused = λ text. (not_refused text, λ w. is_not_refused text w.0 w.1); one_form = one_form }
