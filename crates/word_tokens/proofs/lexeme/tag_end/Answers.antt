use Rattle.std.proofs.Common.{◌∙◌}
use Rattle.word_tokens.proofs.FrontLemmas.{tag_end-some, tag_end-open, tag_end-none}
use Rattle.word_tokens.proofs.lexeme.tag_end.Goals as goal

pub returns-in_err-end : goal.returns-in_err-end
returns-in_err-end c = c.from_residual.ensures ∙ tag_end-none c.args.after.now c.in_err-end.ensures

pub returns-then-after-end-eq62 : goal.returns-then-after-end-eq62
returns-then-after-end-eq62 c = tag_end-some _ _ c.in_ok-end.ensures c.if-after-end-eq62.true

pub returns-else-after-end-eq62 : goal.returns-else-after-end-eq62
returns-else-after-end-eq62 c = tag_end-open _ _ c.in_ok-end.ensures c.if-after-end-eq62.false
