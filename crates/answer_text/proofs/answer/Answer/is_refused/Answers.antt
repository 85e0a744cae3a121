use Rattle.std.proofs.Common.{sym}
use Rattle.live_version.specs.Contents.{files_of}
use Rattle.answer_text.proofs.LineLemmas.{listing_plain}
use Rattle.answer_text.proofs.answer.Answer.is_refused.Goals as goal

pub returns-in-Files : goal.returns-in-Files
returns-in-Files c = λ version. rw c.in-Files.is (sym (listing_plain (files_of version.slots)))
