use Rattle.std.proofs.Common.{Some, inl, sym, refl, ◌∙◌}
use Rattle.live_version.proofs.TermLemmas.{greater_first, not_greater, no_later_itself}
use Rattle.live_version.proofs.terms.earlier_term.Goals as goal

pub returns-in-Greater-clause-first : goal.returns-in-Greater-clause-first
returns-in-Greater-clause-first c =
    rw (c.in-Some-Some.is-0, c.in-Some-Some.is-1) (greater_first c.in-Some-Some.a.now c.in-Some-Some.b.now (sym c.cmp.ensures ∙ c.in-Greater.is))

pub returns-in_default : goal.returns-in_default
returns-in_default c = record {
  first = rw c.in-Some-Some.is-0 (no_later_itself (Some c.in-Some-Some.a.now));
  second = rw (c.in-Some-Some.is-0, c.in-Some-Some.is-1) (not_greater c.in-Some-Some.a.now c.in-Some-Some.b.now c.cmp.result (sym c.cmp.ensures) c.in_default.not-Greater);
  among = inl refl;
}
