use Rattle.std.proofs.Common.{◌≡◌, ◌+◌, get_or, inl, inr, ap, arith}
use Rattle.std.proofs.lemmas.Bool.{cases_lt}
use Rattle.std.proofs.lemmas.Nat.{le_or_l, le_or_r}
use Rattle.posting_code.proofs.unpack.are_short.Goals as goal

pub loop-i-preserved : goal.loop-i-preserved
loop-i-preserved c = λ j lt.
    let byte = get_or c.args.packed.now (c.args.at + c.loop-i.i) 0 in
    let left = le_or_l c.loop-i.all byte in
    let right = le_or_r c.loop-i.all byte in
    elim (cases_lt j c.loop-i.i) [
      | inl earlier ↦ let old = c.loop-i.invariant j earlier in omega (arith, old, left)
      | inr last ↦
          let same : j ≡ c.loop-i.i = omega (arith, lt, last) in
          let is = ap (λ i. get_or c.args.packed.now (c.args.at + i) 0) same in
          omega (arith, is, right)
    ]
