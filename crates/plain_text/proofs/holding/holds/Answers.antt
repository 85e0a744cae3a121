use Rattle.std.proofs.Common.{◌≡◌, ◌+◌, suc, drop, sym, ◌∙◌, ap, arith}
use Rattle.gcl_model.specs.Texts.{holds}
use Rattle.plain_text.proofs.Holders.{holds_here, holds_later}
use Rattle.plain_text.proofs.holding.holds.Goals as goal

pub returns-then-is_word : goal.returns-then-is_word
returns-then-is_word c =
    sym (holds_here c.args.text.now.words c.loop-i.i c.word_at-at.result.0 c.word_at-at.result.1.now c.args.token.now c.args.address c.word_at-at.ensures (sym c.is_word.ensures ∙ c.if-is_word.true)) ∙ c.loop-i.invariant

pub loop-i-preserved : goal.loop-i-preserved
loop-i-preserved c =
    let words = c.args.text.now.words in
    let i = c.loop-i.i in
    let at : i + 1 ≡ suc i = omega arith in
    ap (λ n. holds (drop n words) c.args.token.now c.args.address) at
    ∙ sym (holds_later words i c.word_at-at.result.0 c.word_at-at.result.1.now c.args.token.now c.args.address c.word_at-at.ensures (sym c.is_word.ensures ∙ c.if-is_word.false)) ∙ c.loop-i.invariant
