use Rattle.std.proofs.Common.{◌≡◌, ◌++◌, ◌+◌, ◌≤◌, ◌-◌, ◌⊎◌, inl, inr, length, take, drop, sym, ap, ◌∙◌, arith}
use Rattle.prefix_terms.specs.Runs.{tokens_in}
use Rattle.prefix_terms.proofs.Merges.{left_of, merge_less, merge_equal, merge_greater, merge_ends}
use Rattle.prefix_terms.proofs.merging.merged.Goals as goal
use Rattle.prefix_terms.proofs.merging.merged.Goals.{then-loop-i-test+else-j-second, else-loop-i-test}

pub loop-i-preserved-in-Less : goal.loop-i-preserved-in-Less
loop-i-preserved-in-Less c = record {
  first_within = omega arith;
  second_within = omega arith;
  words = ap (λ l. tokens_in l ++ left_of c.args.first.now c.args.second.now (c.loop-i.i + 1) c.loop-i.j) c.in_ok-push-in-Less.ensures.items
      ∙ merge_less c.loop-i.all.items c.args.first.now c.args.second.now c.loop-i.i c.loop-i.j _ _ c.loop-i-test.true c.if-j-second.true c.requires.first c.requires.second (sym c.in-Less.ensures)
      ∙ c.loop-i.invariant.words;
}

pub loop-i-preserved-in-Equal : goal.loop-i-preserved-in-Equal
loop-i-preserved-in-Equal c = record {
  first_within = omega arith;
  second_within = omega arith;
  words = ap (λ l. tokens_in l ++ left_of c.args.first.now c.args.second.now (c.loop-i.i + 1) (c.loop-i.j + 1)) c.in_ok-push-in-Equal.ensures.items
      ∙ merge_equal c.loop-i.all.items c.args.first.now c.args.second.now c.loop-i.i c.loop-i.j _ _ c.loop-i-test.true c.if-j-second.true c.requires.first c.requires.second (sym c.in-Equal.ensures)
      ∙ c.loop-i.invariant.words;
}

pub loop-i-preserved : goal.loop-i-preserved
loop-i-preserved c = record {
  first_within = omega arith;
  second_within = omega arith;
  words = ap (λ l. tokens_in l ++ left_of c.args.first.now c.args.second.now c.loop-i.i (c.loop-i.j + 1)) c.in_ok-push-in-Greater.ensures.items
      ∙ merge_greater c.loop-i.all.items c.args.first.now c.args.second.now c.loop-i.i c.loop-i.j _ _ c.loop-i-test.true c.if-j-second.true c.requires.first c.requires.second (sym c.in-Greater.ensures)
      ∙ c.loop-i.invariant.words;
}

pub returns : goal.returns
returns c =
    let first = c.args.first.now in
    let second = c.args.second.now in
    let i = c.loop-i.i in
    let j = c.loop-i.j in
    let h : c.extend_from_slice.new.self.items ≡ c.loop-i.all.items ++ take (length first - i) (drop i first) = c.in_ok-extend_from_slice.ensures.items in
    let done : (length first ≤ i) ⊎ (length second ≤ j) = elim c.loop-i-test.branch [ then-loop-i-test+else-j-second w ↦ inr w.if-j-second.false | else-loop-i-test w ↦ inl w.loop-i-test.false ] in
    merge_ends c.loop-i.all.items c.extend_from_slice-2.new.self.items first second i j c.requires.first c.requires.second done
    (c.in_ok-extend_from_slice-2.ensures.items ∙ ap (λ l. l ++ take (length second - j) (drop j second)) h)
    ∙ c.loop-i.invariant.words
