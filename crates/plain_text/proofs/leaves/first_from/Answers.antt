use Rattle.std.proofs.Common.{◌≡◌, ◌+◌, suc, drop, sym, ◌∙◌, ap, arith}
use Rattle.plain_text.specs.Holders.{first_holder}
use Rattle.plain_text.proofs.Holders.{first_here, first_later}
use Rattle.plain_text.proofs.leaves.first_from.Goals as goal

pub returns-then-eq : goal.returns-then-eq
returns-then-eq c =
    sym (first_here c.args.text.now.words c.loop-i.i c.word_at-address.result.0 c.word_at-address.result.1.now c.args.term.now c.word_at-address.ensures (sym c.eq.ensures ∙ c.if-eq.true)) ∙ c.loop-i.invariant

pub loop-i-preserved : goal.loop-i-preserved
loop-i-preserved c =
    let words = c.args.text.now.words in
    let i = c.loop-i.i in
    let at : i + 1 ≡ suc i = omega arith in
    ap (λ n. first_holder (drop n words) c.args.term.now) at
    ∙ sym (first_later words i c.word_at-address.result.0 c.word_at-address.result.1.now c.args.term.now c.word_at-address.ensures (sym c.eq.ensures ∙ c.if-eq.false)) ∙ c.loop-i.invariant
