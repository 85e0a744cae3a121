use Rattle.std.proofs.Common.{◌≡◌, ℕ, ◌+◌, ◌/◌, ◌%◌, ◌^◌, ◌<◌, ◌≤◌, List, [], ◌∷◌, ◌++◌, length, length-append, take, append_assoc, sym, ap, ◌∙◌, arith}
use Rattle.std.proofs.lemmas.List.{take-append-le}
use Rattle.posting_code.specs.Numbers.{spelling}
use Rattle.posting_code.proofs.Numbers.{spelling-more}
use Rattle.posting_code.proofs.number.put_bytes.Goals as goal

-- one byte more is put, and what is left is spelled behind it
put_more : (out new : List ℕ) (left : ℕ) → 128 ≤ left → left < 2 ^ 56 → new ≡ out ++ (128 + left % 128) ∷ [] → new ++ spelling (left / 128) ≡ out ++ spelling left
put_more out new left large small put =
    ap (λ bs. bs ++ spelling (left / 128)) put ∙ append_assoc out ((128 + left % 128) ∷ []) (spelling (left / 128)) ∙ ap (λ bs. out ++ bs) (sym (spelling-more left large small))

-- what was there stays in front
kept_in_front : (old out new : List ℕ) (byte : ℕ) → length old ≤ length out → take (length old) out ≡ old → new ≡ out ++ byte ∷ [] → take (length old) new ≡ old
kept_in_front old out new byte long kept put = ap (take (length old)) put ∙ take-append-le (length old) out (byte ∷ []) long ∙ kept

pub loop-left-preserved : goal.loop-left-preserved
loop-left-preserved c =
    let before = c.loop-left.invariant in
    let small = before.small in
    let long = before.long in
    let put = c.in_ok-push.ensures.items in
    let longer = ap length put ∙ length-append c.loop-left.out.items ((128 + c.loop-left.left % 128) ∷ []) in
    record {
      small = omega (arith, small);
      spelled = put_more c.loop-left.out.items _ c.loop-left.left c.loop-left-test.true small put ∙ before.spelled;
      long = omega (arith, long, longer);
      kept = kept_in_front c.args.out.now.items c.loop-left.out.items _ (128 + c.loop-left.left % 128) long before.kept put;
    }
