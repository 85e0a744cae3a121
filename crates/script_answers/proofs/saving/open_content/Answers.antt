use Rattle.std.proofs.Common.{refl}
use Rattle.image_read.proofs.Readings.{reads_none}
use Rattle.script_answers.proofs.SaveReplies.{reading_refused}
use Rattle.script_answers.proofs.saving.open_content.Goals as goal

pub returns-in-Err-NotImage-clause-follows : goal.returns-in-Err-NotImage-clause-follows
returns-in-Err-NotImage-clause-follows g c = λ state keeps reading.
    reading_refused state c.args.content.now c.args.engine.now
    (λ o read. reads_none c.args.content.now o (c.in-Err-NotImage.ensures.not_image (rw c.in-Err-NotImage.field-0-is refl)) read) keeps reading
