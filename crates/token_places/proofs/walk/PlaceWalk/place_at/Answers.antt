use Rattle.std.proofs.Common.{◌+◌, ◌∙◌, sym, ap, subst, refl, length, get_or, arith}
use Rattle.token_places.specs.Places.{Place, file_places, stretch}
use Rattle.token_places.specs.Walks.{IsWalk}
use Rattle.token_places.proofs.WalkLemmas.{walk_on, walk_end}
use Rattle.token_places.proofs.walk.PlaceWalk.place_at.Goals as goal

pub returns-in_default-clause-place : goal.returns-in_default-clause-place
returns-in_default-clause-place c =
    let w = c.loop-self.self-inside in
    walk_end w.bytes.now w.address c.args.address w.place w.cursor c.loop-self.invariant.at (c.in_default.ensures.none refl) c.loop-self-test.true
    ∙ ap (λ bytes. get_or (file_places bytes) c.args.address (stretch (length w.bytes.now) (length w.bytes.now))) c.loop-self.invariant.same
    ∙ ap (λ bytes. get_or (file_places c.args.self.now) c.args.address (stretch (length bytes) (length bytes))) c.loop-self.invariant.same

pub loop-self-preserved : goal.loop-self-preserved
loop-self-preserved c =
    let w = c.loop-self.self-inside in
    record {
      upto = omega arith;
      same = c.loop-self.invariant.same;
      at = subst (λ (p : Place). IsWalk w.bytes.now (w.address + 1) p c.next.new.self) (sym c.place-self-inside.ensures)
          (walk_on w.bytes.now w.address w.place c.in-Some.token w.cursor c.next.new.self c.loop-self.invariant.at c.in-Some.ensures.some);
    }
