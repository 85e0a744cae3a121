use Rattle.std.proofs.Common.{rules, length}
use Rattle.live_version.specs.Contents.{files_of}
use Rattle.script_lang.specs.Answers.{total_line}
use Rattle.answer_text.specs.Texts.{record_lines}
use Rattle.answer_text.proofs.LineLemmas.{one_more}
use Rattle.answer_text.proofs.answer.put_listing.Goals as goal

pub returns : goal.returns
returns c = one_more (record_lines (files_of c.args.version.now.slots)) (total_line (length (files_of c.args.version.now.slots))) c.args.out.now.items c.put_slots.new.out.items c.put_total.new.out.items (search rules) (search rules)
