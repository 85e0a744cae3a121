use Rattle.std.proofs.Common.{sym, ◌∙◌, ap, length}
use Rattle.plain_text.proofs.Entries.{length-words_in}
use Rattle.plain_text.proofs.text.PlainText.word_count.Goals as goal

pub returns : goal.returns
returns c = ap length c.as_slice.ensures.value ∙ sym (length-words_in c.self.inside.bytes.items 0 c.self.inside.entries.items) ∙ ap (λ t. length t.words) c.self.view_is
