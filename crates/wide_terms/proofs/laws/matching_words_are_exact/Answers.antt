use Rattle.wide_terms.proofs.Vocabularies.{matching_exact}
use Rattle.wide_terms.proofs.laws.matching_words_are_exact.Goals as goal

pub returns : goal.returns
returns c = matching_exact
