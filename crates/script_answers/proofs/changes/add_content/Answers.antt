use Rattle.std.proofs.Common.{rules}
use Rattle.gcl_model.specs.Tokens.{tokens_of}
use Rattle.script_answers.proofs.LocalEdits.{added_local}
use Rattle.script_answers.proofs.SaveReplies.{added_savable}
use Rattle.script_answers.proofs.changes.add_content.Goals as goal

pub returns-in-Ok-clause-steps : goal.returns-in-Ok-clause-steps
returns-in-Ok-clause-steps g c = record {
  number = search rules;
  savable = added_savable c.args.engine.now.version c.add.new.self.version c.args.name.now c.args.content.now c.requires.savable c.in-Ok.ensures.ok.change c.requires.short;
  publisher = search rules;
}

pub returns-in-Ok-clause-local : goal.returns-in-Ok-clause-local
returns-in-Ok-clause-local g c =
    added_local c.edits_agree.ensures.added c.args.engine.now c.add.new.self c.args.name.now (tokens_of c.args.content.now) c.in-Ok.added c.requires.savable c.in-Ok.ensures.ok
