use Rattle.posting_code.proofs.Spellings.{only_spelling}
use Rattle.posting_code.proofs.laws.each_number_has_one_spelling.Goals as goal

pub returns : goal.returns
returns c = only_spelling
