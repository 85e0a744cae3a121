use Rattle.std.proofs.Common.{◌≡◌, ◌/◌, false, get_or, length, take, sym, arith, ap, ◌∙◌}
use Rattle.std.proofs.lemmas.Bool.{true≢false}
use Rattle.image_read.proofs.MarkLemmas.{bits-length, front_marks, full_marks}
use Rattle.image_read.proofs.marks.Marks.all_marked.Goals as goal

pub returns-then-not-are_full : goal.returns-then-not-are_full
returns-then-not-are_full c =
    let words = c.self.inside.words.items in
    let count = c.self.inside.count in
    let same : length c.args.self.now ≡ count = ap length (sym c.self.view_is) ∙ bits-length words count in
    let front = ap (take (count / 64)) c.deref.ensures.value in (
      (λ no. absurd cc),
      (λ full.
          let each = front_marks words _ count front c.self.invariant (λ k lt. ap (λ l. get_or l k false) c.self.view_is ∙ full k (omega (arith, same, lt))) in
          absurd (true≢false (sym (c.are_full.ensures.1 each) ∙ c.if-not-are_full.true))),
    )

pub returns : goal.returns
returns c =
    let words = c.self.inside.words.items in
    let count = c.self.inside.count in
    let same : length c.args.self.now ≡ count = ap length (sym c.self.view_is) ∙ bits-length words count in
    let front = ap (take (count / 64)) c.deref.ensures.value in (
      (λ yes i lt.
          ap (λ l. get_or l i false) (sym c.self.view_is)
          ∙ full_marks words _ count front c.self.invariant (c.are_full.ensures.0 c.if-not-are_full.false)
          (λ k ge less. ap (λ l. get_or l k false) c.self.view_is ∙ c.marked_from.ensures.0 yes k ge (omega (arith, same, less))) i (omega (arith, same, lt))),
      (λ full. c.marked_from.ensures.1 (λ i ge lt. full i lt)),
    )
