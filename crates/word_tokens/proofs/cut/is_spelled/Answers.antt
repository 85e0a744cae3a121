use Rattle.std.proofs.lemmas.Bool.{false≢true}
use Rattle.word_tokens.proofs.SpelledLemmas.{other_opening, other_closing, spelled}
use Rattle.word_tokens.proofs.cut.is_spelled.Goals as goal

pub returns-in_default : goal.returns-in_default
returns-in_default c = (
  λ t. absurd (false≢true t),
  λ e. other_opening c.args.text.now c.args.opening.now _ c.args.closing.now c.in_default.ensures.cases e,
)

pub returns-in_default-strip_suffix : goal.returns-in_default-strip_suffix
returns-in_default-strip_suffix c = (
  λ t. absurd (false≢true t),
  λ e. other_closing c.args.text.now c.in-Some.behind.now c.args.opening.now _ c.args.closing.now c.in-Some.ensures.cases.1 c.in_default-strip_suffix.ensures.cases e,
)

pub returns : goal.returns
returns c =
    spelled c.is_lower_case_of.result c.args.text.now c.in-Some.behind.now c.in-Some-strip_suffix.inside.now c.args.opening.now _ c.args.closing.now c.in-Some.ensures.cases.0
    c.in-Some.ensures.cases.1 c.in-Some-strip_suffix.ensures.cases.0 c.in-Some-strip_suffix.ensures.cases.1 c.is_lower_case_of.ensures
