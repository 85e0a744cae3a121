use Rattle.std.proofs.Common.{◌≡◌, ◌+◌, suc, take, length, sym, ◌∙◌, ap, subst, arith, refl, le_refl}
use Rattle.std.proofs.lemmas.Option.{slice_get_read}
use Rattle.gcl_model.specs.Texts.{Text}
use Rattle.gcl_model.specs.Collections.{words_from}
use Rattle.plain_text.specs.Puts.{AreBelow, with_word}
use Rattle.plain_text.proofs.Puts.{are_below, words_from-more}
use Rattle.plain_text.proofs.tokens.of_tokens.Goals as goal

pub put-requires-clause-last : goal.put-requires-clause-last
put-requires-clause-last c =
    let tokens = c.as_slice-token-items.result.now in
    let first = c.args.first in
    subst (λ (t : Text). AreBelow (first + c.loop-i.i) t.words) (sym c.loop-i.invariant) (are_below first tokens c.loop-i.i (first + c.loop-i.i) (le_refl _))

pub loop-i-preserved : goal.loop-i-preserved
loop-i-preserved c =
    let tokens = c.as_slice-token-items.result.now in
    let first = c.args.first in
    let i = c.loop-i.i in
    let at : suc i ≡ i + 1 = omega arith in
    let found = slice_get_read tokens (length tokens) i c.token-item.result refl c.loop-i-test.true c.token-item.is in
    c.in_ok-put.ensures.ok
    ∙ ap (λ t. with_word t (first + i) c.as_slice.result.now) c.loop-i.invariant
    ∙ ap (λ b. with_word record { first = first; next = first + c.len.result; words = words_from first (take i tokens) } (first + i) b) c.as_slice.ensures
    ∙ ap (λ ws. record { first = first; next = first + c.len.result; words = ws }) (sym (words_from-more first tokens i c.token-item.result found) ∙ ap (λ n. words_from first (take n tokens)) at)
