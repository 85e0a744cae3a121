use Rattle.std.proofs.Common.{refl, sym, subst, arith}
use Rattle.std.specs.Bool.{IsTrue}
use Rattle.posting_code.proofs.Runs.{bytes_enough}
use Rattle.posting_code.proofs.unpack.pass_seven.Goals as goal

pub are_short-requires : goal.are_short-requires
are_short-requires c =
    let bytes = bytes_enough _ _ _ c.requires.can in
    let enough = c.requires.enough in
    record { within = omega (arith, bytes, enough) }

pub returns-then-are_short-clause-within : goal.returns-then-are_short-clause-within
returns-then-are_short-clause-within c = λ within.
    let bytes = bytes_enough _ _ _ c.requires.can in
    let enough = c.requires.enough in
    omega (arith, bytes, enough, within)

pub pass_run-first-requires-clause-short : goal.pass_run-first-requires-clause-short
pass_run-first-requires-clause-short c = c.are_short.ensures (subst IsTrue (sym c.if-are_short.true) refl)

pub overflow_add-result : goal.overflow_add-result
overflow_add-result c =
    let bytes = bytes_enough c.args.packed.now c.args.head.first c.args.head.at c.requires.can in
    let enough = c.requires.enough in
    omega (arith, bytes, enough)

pub returns-then-are_short-clause-rest : goal.returns-then-are_short-clause-rest
returns-then-are_short-clause-rest c = c.pass_run-first.ensures.rest

pub returns-then-are_short-clause-can : goal.returns-then-are_short-clause-can
returns-then-are_short-clause-can c = c.pass_run-first.ensures.can

pub returns-clause-rest : goal.returns-clause-rest
returns-clause-rest c = c.pass_each.ensures.rest

pub returns-clause-can : goal.returns-clause-can
returns-clause-can c = c.pass_each.ensures.can

pub returns-clause-within : goal.returns-clause-within
returns-clause-within c = c.pass_each.ensures.within
