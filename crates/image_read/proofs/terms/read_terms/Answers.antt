use Rattle.std.proofs.Common.{◌≡◌, sym, subst, arith, ap, ◌∙◌}
use Rattle.std.specs.Option.{is_some}
use Rattle.std.proofs.lemmas.Bool.{true≢false}
use Rattle.index_shard.specs.Tables.{ShardContent}
use Rattle.image_read.specs.Tables.{AreReadTerms}
use Rattle.image_read.proofs.TermTracking.{last_put, terms_are, terms_end, terms_full, terms_none, terms_read, terms_step_as, terms_stop}
use Rattle.image_read.proofs.terms.read_terms.Goals as goal
use Rattle.gcl_model.proofs.Cases.{IfSome-at}

pub returns-in_default-2-clause-none : goal.returns-in_default-2-clause-none
returns-in_default-2-clause-none c none =
    terms_none _ _ _ _ _ _ _ c.in-Some.ensures.some
    (terms_stop _ _ _ _ _ _ _ _ _ _ (omega (arith, c.loop-i-test.true)) c.loop-i.invariant.0 (c.in_ok-term.ensures.none (ap is_some c.in_default-2.is)))

pub loop-i-preserved : goal.loop-i-preserved
loop-i-preserved c =
    let put = IfSome-at _ _ _ c.in-Some-2.is c.in_ok-term.ensures.some in
    let holds = IfSome-at _ _ _ c.in-Some-2.is c.in_ok-term.ensures.holds in (
      terms_step_as _ _ _ _ _ _ _ _ _ _ _ _ _ _ c.requires.in_range (omega (arith, c.loop-i-test.true)) c.loop-i.invariant.0 put c.in_ok-term.ensures.files holds,
      c.in_ok-term.ensures.range ∙ c.loop-i.invariant.1,
      last_put _ _ _ _ _ _ _ put,
    )

pub returns-then-not-is_end-clause-none : goal.returns-then-not-is_end-clause-none
returns-then-not-is_end-clause-none c none =
    let done : c.loop-i.i ≡ c.in-Some.count.value = omega (arith, c.loop-i-test.false, c.loop-i.auto.i-end) in
    terms_none _ _ _ _ _ _ _ c.in-Some.ensures.some
    (λ all is.
    let end = (terms_are _ _ _ _ _ _ _ _ _ _ done c.loop-i.invariant.0 all is).1 in
    let full = terms_full _ _ _ _ _ _ _ _ _ _ done c.loop-i.invariant.0 all is in
    true≢false (sym (c.is_end.ensures.1 (end, full)) ∙ c.if-not-is_end.true))

pub returns-clause-some : goal.returns-clause-some
returns-clause-some c =
    let done : c.loop-i.i ≡ c.in-Some.count.value = omega (arith, c.loop-i-test.false, c.loop-i.auto.i-end) in
    let end = c.is_end.ensures.0 c.if-not-is_end.false in
    subst (λ (s : ShardContent). AreReadTerms c.args.head.format c.args.head.first c.args.head.next c.args.places.now.files c.args.bytes.now s.table) (sym c.finish.ensures.value)
    (terms_read _ _ _ _ _ _ _ _ c.in-Some.ensures.some (terms_end _ _ _ _ _ _ _ _ _ _ done c.loop-i.invariant.0 end.0 end.1))
