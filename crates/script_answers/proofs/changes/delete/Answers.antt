use Rattle.std.proofs.Common.{refl, rules}
use Rattle.script_lang.specs.declared.refusals.Refusal.TheVariants.{NoFile}
use Rattle.script_answers.specs.Answers.{del_reply}
use Rattle.script_answers.proofs.LocalEdits.{deleted_local}
use Rattle.script_answers.proofs.Replies.{not_there, refused_follows}
use Rattle.script_answers.proofs.SaveReplies.{deleted_savable}
use Rattle.script_answers.proofs.changes.delete.Goals as goal

pub returns-in-Ok-clause-steps : goal.returns-in-Ok-clause-steps
returns-in-Ok-clause-steps g c = record {
  number = search rules;
  savable = deleted_savable c.args.engine.now.version c.delete.new.self.version c.args.id c.requires.savable c.in-Ok.ensures.ok.change;
  publisher = search rules;
}

pub returns-in-Ok-clause-local : goal.returns-in-Ok-clause-local
returns-in-Ok-clause-local g c = deleted_local c.edits_agree.ensures.deleted c.args.engine.now.version c.delete.new.self.version c.args.id c.requires.savable c.in-Ok.ensures.ok.change

pub returns-in-Err-NotLive-clause-follows : goal.returns-in-Err-NotLive-clause-follows
returns-in-Err-NotLive-clause-follows g c = λ state keeps.
    let none = ((c.in-Err-NotLive.ensures.not_live c.in-Err-NotLive.field-0-0).0 (rw c.in-Err-NotLive.field-0-is refl)).1 in
    refused_follows (del_reply state c.args.id) state (NoFile c.args.id) c.args.engine.now c.delete.new.self
    (not_there c.args.engine.now.version state c.args.id keeps.stands none) keeps c.in-Err-NotLive.ensures.err
