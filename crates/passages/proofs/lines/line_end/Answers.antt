use Rattle.std.proofs.lemmas.List.{take_rest}
use Rattle.script_lang.proofs.LineLemmas.{line_end-found, line_end-none}
use Rattle.passages.proofs.lines.line_end.Goals as goal

pub returns-in-Some-clause-value : goal.returns-in-Some-clause-value
returns-in-Some-clause-value c =
    line_end-found c.args.bytes.now _ c.args.at c.in-Some.len (take_rest c.args.bytes.now c.args.at) c.in-Some.ensures.0 c.in-Some.ensures.1

pub returns-in-None-clause-value : goal.returns-in-None-clause-value
returns-in-None-clause-value c = line_end-none c.args.bytes.now _ c.args.at (take_rest c.args.bytes.now c.args.at) c.requires c.in-None.ensures
