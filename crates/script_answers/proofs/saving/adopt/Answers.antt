use Rattle.std.proofs.Common.{◌≡◌, ◌<◌, refl, arith, rules}
use Rattle.script_answers.proofs.SaveReplies.{follows_opening, opened_savable}
use Rattle.script_answers.proofs.saving.adopt.Goals as goal

pub unreachable-requires : goal.unreachable-requires
unreachable-requires g c =
    let some : 0 < c.args.engine.now.version.next_id = ((c.in-Err-NotEmpty.ensures.not_empty c.in-Err-NotEmpty.field-0-0).0 (rw c.in-Err-NotEmpty.field-0-is refl)).1 in
    let none : c.args.engine.now.version.next_id ≡ 0 = c.requires.empty in
    omega (arith, some, none)

pub returns-in-Ok-clause-follows : goal.returns-in-Ok-clause-follows
returns-in-Ok-clause-follows g c = λ state keeps reading.
    follows_opening state c.args.bytes.now c.args.engine.now.version c.args.version c.adopt.new.self c.file_count-files.result c.requires.opened c.in-Ok.ensures.ok.change c.file_count-files.ensures.value reading

pub returns-in-Ok-clause-steps : goal.returns-in-Ok-clause-steps
returns-in-Ok-clause-steps g c = record {
  number = search rules;
  savable = opened_savable c.args.bytes.now c.args.engine.now.version c.args.version c.adopt.new.self.version c.requires.opened c.in-Ok.ensures.ok.change;
  publisher = search rules;
}
