use Rattle.std.proofs.Common.{◌≡◌, length, refl, sym, arith, ap, ◌∙◌}
use Rattle.std.proofs.lemmas.Bool.{true≢false}
use Rattle.image_read.proofs.MarkLemmas.{bits-length}
use Rattle.image_read.proofs.marks.Marks.marked_from.Goals as goal

pub is_marked-requires : goal.is_marked-requires
is_marked-requires c =
    let same : length c.args.self.now ≡ c.self.inside.count = ap length (sym c.self.view_is) ∙ bits-length c.self.inside.words.items c.self.inside.count in
    omega (arith, same, c.loop-i-test.true, c.loop-i.auto.i-end)

pub returns-then-not-is_marked : goal.returns-then-not-is_marked
returns-then-not-is_marked c =
    let same : length c.args.self.now ≡ c.self.inside.count = ap length (sym c.self.view_is) ∙ bits-length c.self.inside.words.items c.self.inside.count in (
      (λ no. absurd cc),
      (λ full. absurd (true≢false (sym (full c.loop-i.i (omega arith) (omega (arith, same, c.loop-i-test.true, c.loop-i.auto.i-end))) ∙ sym c.is_marked.ensures ∙ c.if-not-is_marked.true))),
    )

pub returns : goal.returns
returns c =
    let same : length c.args.self.now ≡ c.self.inside.count = ap length (sym c.self.view_is) ∙ bits-length c.self.inside.words.items c.self.inside.count in (
      (λ yes i from lt. c.loop-i.invariant i from (omega (arith, same, lt, c.loop-i-test.false, c.loop-i.auto.i-end))),
      (λ full. refl),
    )
