use Rattle.std.proofs.Common.{◌∙◌, ap, codes}
use Rattle.clap.specs.Words.{found_of}
use Rattle.clap.proofs.WalkLemmas.{first_value-rows}
use Rattle.grep_words.specs.Grammar.{threads_from}
use Rattle.grep_words.proofs.reader.threads_in.Goals as goal

pub returns : goal.returns
returns c = c.threads_from.ensures ∙ ap threads_from (c.get_str.ensures ∙ first_value-rows (found_of c.args.matches.now) (codes "threads"))
