use Rattle.std.proofs.Common.{[], sym, ◌∙◌, subst}
use Rattle.std.proofs.lemmas.List.{append-nil}
use Rattle.shard_build.specs.Met.{AreNumbered, names_of}
use Rattle.shard_build.proofs.NumberedNames.{last_numbered, numbered_less}
use Rattle.shard_build.proofs.numbers.forget_above.Goals as goal
use Rattle.shard_build.proofs.numbers.forget_above.Goals.{in-Some, in_default}

pub forget_number-requires : goal.forget_number-requires
forget_number-requires c =
    last_numbered c.loop.numbers c.loop.lists.items c.pop.new.self.items (c.in-Some.name, c.in-Some.field-0-1) c.as_slice.result.now c.in-Some.ensures.items c.as_slice.ensures c.loop.invariant.numbers

pub loop-preserved : goal.loop-preserved
loop-preserved c =
    let es = c.loop.lists.items in
    let fs = c.pop.new.self.items in
    elim c.match-pop.branch [
      | in-Some w ↦
          subst (λ n. AreNumbered n (names_of fs [])) (sym w.numbers-is)
          (numbered_less w.forget_number.new.numbers es fs (w.in-Some.name, w.in-Some.field-0-1) w.in-Some.ensures.items w.forget_number.ensures c.loop.invariant.names)
      | in_default w ↦
          subst (λ n. AreNumbered n (names_of fs [])) (sym w.numbers-is)
          (subst (λ l. AreNumbered c.loop.numbers (names_of l [])) (w.in_default.ensures.items ∙ append-nil fs) c.loop.invariant)
    ]
