use Rattle.std.proofs.Common.{◌≡◌, ◌-◌, suc, take, sym, ◌∙◌, ap, arith}
use Rattle.plain_text.specs.Holders.{last_holder}
use Rattle.plain_text.proofs.Holders.{last_here, last_earlier}
use Rattle.plain_text.proofs.leaves.last_below.Goals as goal

pub returns-then-eq : goal.returns-then-eq
returns-then-eq c =
    let words = c.args.text.now.words in
    let left = c.loop-left.left in
    let at : suc (left - 1) ≡ left = omega arith in
    sym (last_here words (left - 1) c.word_at-address.result.0 c.word_at-address.result.1.now c.args.term.now c.word_at-address.ensures (sym c.eq.ensures ∙ c.if-eq.true))
    ∙ ap (λ n. last_holder (take n words) c.args.term.now) at ∙ c.loop-left.invariant.same

pub loop-left-preserved : goal.loop-left-preserved
loop-left-preserved c =
    let words = c.args.text.now.words in
    let left = c.loop-left.left in
    let at : suc (left - 1) ≡ left = omega arith in
    record {
      within = omega arith;
      same = sym (last_earlier words (left - 1) c.word_at-address.result.0 c.word_at-address.result.1.now c.args.term.now c.word_at-address.ensures (sym c.eq.ensures ∙ c.if-eq.false))
          ∙ ap (λ n. last_holder (take n words) c.args.term.now) at ∙ c.loop-left.invariant.same;
    }
