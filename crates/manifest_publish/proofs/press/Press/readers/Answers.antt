use Rattle.std.proofs.Common.{◌≡◌, refl, sym, ap, ◌∙◌, subst, arith, length, vec_len, vec_capacity}
use Rattle.std.specs.List.{AllByRecursion}
use Rattle.manifest_publish.specs.Accounts.{ReaderContent, with_pass}
use Rattle.manifest_publish.proofs.Prefixes.{all_snoc}
use Rattle.manifest_publish.proofs.press.Press.readers.Goals.{in-Some, in_default}
use Rattle.manifest_publish.proofs.press.Press.readers.Goals as goal

pub loop-init : goal.loop-init
loop-init c =
    let none = c.requires.room.0 in (
      refl,
      subst (AllByRecursion (λ (reader : ReaderContent). reader ≡ with_pass c.args.mark.now.publisher c.args.mark.now.history)) (sym none) tt,
      omega (arith, ap length none),
      c.requires.room.1,
    )

pub loop-preserved : goal.loop-preserved
loop-preserved c =
    let P : ReaderContent → Type 0 = λ reader. reader ≡ with_pass c.args.mark.now.publisher c.args.mark.now.history in
    let kept = c.reader.ensures.kept ∙ c.loop.invariant.0 in
    elim c.match-reader.branch [
      | in-Some w ↦ (
        kept,
        subst (AllByRecursion P) (sym (ap (λ made. made.items) w.made-is ∙ w.push_reserved.ensures.items)) (all_snoc P c.loop.made.items w.in-Some.reader c.loop.invariant.1 w.in-Some.ensures.reader),
        omega (arith, ap vec_len w.made-is, w.push_reserved.ensures.len),
        ap vec_capacity w.made-is ∙ w.push_reserved.ensures.capacity ∙ c.loop.invariant.3,
      )
      | in_default w ↦ (
        kept,
        subst (λ made. AllByRecursion P made.items) (sym w.made-is) c.loop.invariant.1,
        omega (arith, ap vec_len w.made-is),
        ap vec_capacity w.made-is ∙ c.loop.invariant.3,
      )
    ]
