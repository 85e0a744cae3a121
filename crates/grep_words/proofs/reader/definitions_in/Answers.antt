use Rattle.std.proofs.Common.{◌∙◌, ap, codes, Some}
use Rattle.clap.specs.Words.{found_of}
use Rattle.clap.proofs.WalkLemmas.{first_value-rows}
use Rattle.grep_words.proofs.reader.definitions_in.Goals as goal

pub returns-in_ok-copy_of-in-Some : goal.returns-in_ok-copy_of-in-Some
returns-in_ok-copy_of-in-Some c =
    ap (λ name. Some name) (c.in_ok-copy_of-in-Some.ensures ∙ c.as_bytes.ensures.value) ∙ c.in-Some.ensures ∙ first_value-rows (found_of c.args.matches.now) (codes "definitions")

pub returns-in-None : goal.returns-in-None
returns-in-None c = c.in-None.ensures ∙ first_value-rows (found_of c.args.matches.now) (codes "definitions")
