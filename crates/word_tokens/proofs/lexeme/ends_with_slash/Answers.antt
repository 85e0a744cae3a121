use Rattle.std.proofs.Common.{◌∙◌, ap, nat_eq, Some}
use Rattle.std.specs.Option.{option_eq}
use Rattle.word_tokens.proofs.FrontLemmas.{ends_with_byte-last}
use Rattle.word_tokens.proofs.lexeme.ends_with_slash.Goals as goal

pub returns : goal.returns
returns c = let e = c.copied.ensures in c.eq.ensures ∙ ap (λ last. option_eq nat_eq last (Some 47)) (e ∙ c.last.ensures.value) ∙ ends_with_byte-last 47 c.args.bytes.now
