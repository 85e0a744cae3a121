use Rattle.std.proofs.Common.{refl, sym, subst, arith}
use Rattle.std.specs.Bool.{IsTrue}
use Rattle.posting_code.proofs.Runs.{bytes_enough}
use Rattle.posting_code.proofs.unpack.put_seven.Goals as goal

pub are_short-requires : goal.are_short-requires
are_short-requires c =
    let bytes = bytes_enough _ _ _ c.requires.can in
    let enough = c.requires.enough in
    record { within = omega (arith, bytes, enough) }

pub put_run-value-requires-clause-short : goal.put_run-value-requires-clause-short
put_run-value-requires-clause-short c = c.are_short.ensures (subst IsTrue (sym c.if-are_short.true) refl)

pub overflow_add-result : goal.overflow_add-result
overflow_add-result c =
    let bytes = bytes_enough c.args.packed.now c.args.before.value c.args.before.after c.requires.can in
    let enough = c.requires.enough in
    omega (arith, bytes, enough)

pub returns-then-are_short-clause-members : goal.returns-then-are_short-clause-members
returns-then-are_short-clause-members c = c.put_run-value.ensures.members

pub returns-then-are_short-clause-rest : goal.returns-then-are_short-clause-rest
returns-then-are_short-clause-rest c = c.put_run-value.ensures.rest

pub returns-then-are_short-clause-can : goal.returns-then-are_short-clause-can
returns-then-are_short-clause-can c = c.put_run-value.ensures.can

pub returns-clause-members : goal.returns-clause-members
returns-clause-members c = c.put_each.ensures.members

pub returns-clause-rest : goal.returns-clause-rest
returns-clause-rest c = c.put_each.ensures.rest

pub returns-clause-can : goal.returns-clause-can
returns-clause-can c = c.put_each.ensures.can
