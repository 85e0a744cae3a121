use Rattle.std.proofs.Common.{◌≡◌, ◌/◌, ◌*◌, get_or, inl, inr, refl, arith, ap, ◌∙◌}
use Rattle.std.proofs.lemmas.Bool.{cases_lt}
use Rattle.image_read.proofs.MarkLemmas.{word_full, word_lacks}
use Rattle.image_read.proofs.marks.are_full.Goals as goal

pub returns-then-word : goal.returns-then-word
returns-then-word c = ((λ no. absurd cc), (λ full. absurd (word_lacks c.args.words.now c.loop-word.word-index _ refl (omega (arith, c.type_inv.words c.loop-word.word-index)) c.if-word.true (λ k lt. full k (omega (arith, lt, c.loop-word-test.true))))))

pub loop-word-preserved : goal.loop-word-preserved
loop-word-preserved c k lt = elim (cases_lt k (64 * c.loop-word.word-index)) [
  | inl less ↦ c.loop-word.invariant k less
  | inr more ↦
      let row : k / 64 ≡ c.loop-word.word-index = omega (arith, lt, more) in
      word_full c.args.words.now k _ refl (ap (λ i. get_or c.args.words.now i 0) row ∙ c.if-word.false)
]
