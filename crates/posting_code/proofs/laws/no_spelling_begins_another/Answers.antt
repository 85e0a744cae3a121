use Rattle.posting_code.proofs.Numbers.{prefix_free}
use Rattle.posting_code.proofs.laws.no_spelling_begins_another.Goals as goal

pub returns : goal.returns
returns c = prefix_free
