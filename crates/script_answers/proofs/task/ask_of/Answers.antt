use Rattle.std.proofs.Common.{refl, ap, ◌∙◌}
use Rattle.script_answers.specs.Answers.{query_lines}
use Rattle.script_answers.proofs.task.ask_of.Goals as goal

pub returns : goal.returns
returns c = record { query = c.args.query.now; command_is = refl; lines_are = λ text. c.in_ok-query.ensures.lines c.args.asked text ∙ ap (query_lines c.args.asked text) c.as_slice.ensures }
