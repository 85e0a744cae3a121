use Rattle.std.proofs.Common.{◌∙◌, ap, [], map}
use Rattle.std.specs.Prelude.{unwrap_or}
use Rattle.clap.specs.Words.{found_of, rows_of}
use Rattle.clap.proofs.WalkLemmas.{raw_values-rows}
use Rattle.grep_words.specs.Grammar.{values_in}
use Rattle.grep_words.proofs.Taken.{on_ok}
use Rattle.grep_words.proofs.reader.values_in.Goals as goal

pub returns-in-Some : goal.returns-in-Some
returns-in-Some c =
    on_ok c.of.result (map (λ word. word.now) c.in-Some.values.now) (values_in c.args.name.now (rows_of (found_of c.args.matches.now)))
    (ap (λ o. unwrap_or o []) (c.in-Some.ensures ∙ raw_values-rows (found_of c.args.matches.now) c.args.name.now)) c.of.ensures

pub returns-in-None : goal.returns-in-None
returns-in-None c = c.new.ensures ∙ ap (λ o. unwrap_or o []) (c.in-None.ensures ∙ raw_values-rows (found_of c.args.matches.now) c.args.name.now)
