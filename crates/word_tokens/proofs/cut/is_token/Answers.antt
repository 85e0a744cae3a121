use Rattle.std.proofs.Common.{◌≡◌, ◌<◌, length, ap, sym, ◌∙◌, arith}
use Rattle.std.proofs.lemmas.Bool.{eqb-true, eqb-false, eq-eqb}
use Rattle.word_tokens.proofs.PartLemmas.{part_from_token}
use Rattle.word_tokens.proofs.cut.is_token.Goals as goal

pub returns-else-size-bytes : goal.returns-else-size-bytes
returns-else-size-bytes c = (
  λ t. absurd (c.if-size-bytes.false (eqb-true _ _ t)),
  λ is.
      let other : length c.args.bytes.now ≡ 0 → ⊥ = eqb-false _ _ (sym c.if-is_empty.ensures) in
      let some : 0 < length c.args.bytes.now = omega arith in
      let whole = part_from_token c.args.bytes.now some is in
      eq-eqb _ _ (ap (λ part. part.size) c.first_lexeme-size.ensures ∙ whole.size),
)
