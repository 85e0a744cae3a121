use Rattle.std.proofs.Common.{eqb, length, sym, arith, ap, ◌∙◌}
use Rattle.std.proofs.lemmas.Bool.{eqb-true, true≢false}
use Rattle.std.proofs.lemmas.List.{nil_from_length}
use Rattle.image_read.proofs.Opened.{empty_read, empty_refused}
use Rattle.image_read.proofs.read.empty_version.Goals as goal
use Rattle.image_read.proofs.read.empty_version.Goals.{then-count-ne0-via-then-count-ne0, then-count-ne0-via-else-count-ne0+then-not-is_empty}

pub returns-then-count-ne0-clause-none : goal.returns-then-count-ne0-clause-none
returns-then-count-ne0-clause-none c none =
    empty_refused _ _ _ _ _ _ c.in-Some.ensures.some (elim c.then-count-ne0.branch [
      | then-count-ne0-via-then-count-ne0 w ↦ λ none0 empty. w.if-count-ne0.true none0
      | then-count-ne0-via-else-count-ne0+then-not-is_empty w ↦ λ none0 empty.
          true≢false (ap (λ l. eqb (length l) 0) (sym empty) ∙ sym w.is_empty.ensures ∙ w.if-not-is_empty.true)
    ])

pub returns-clause-some : goal.returns-clause-some
returns-clause-some c =
    empty_read _ _ _ _ _ _ _ _ c.in-Some.ensures.some (omega (arith, c.if-count-ne0.false)) (nil_from_length c.in-Some.count.rest.now (eqb-true (length c.in-Some.count.rest.now) 0 (sym c.is_empty.ensures ∙ c.if-not-is_empty.false))) c.in_ok-version.ensures.value
