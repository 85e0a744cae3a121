use Rattle.std.proofs.Common.{subst}
use Rattle.gcl_model.specs.Texts.{IsText}
use Rattle.text_search.specs.FileTexts.{file_text}
use Rattle.text_search.specs.Tables.{tokens_in}
use Rattle.text_search.proofs.FileLemmas.{named_is_text, file_is_text}
use Rattle.text_search.proofs.text.QueryText.addresses.Goals as goal

pub returns-clause-sound : goal.returns-clause-sound
returns-clause-sound c =
    let q = c.self.inside in subst IsText c.self.view_is (named_is_text (tokens_in q.table) (file_text q.bytes.now) (file_is_text q.bytes.now c.self.invariant.fits))
