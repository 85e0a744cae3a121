use Rattle.std.proofs.Common.{Some, None, ap, ◌∙◌, rules}
use Rattle.gcl_model.proofs.Places.{first_start-term_found}
use Rattle.gcl_readers.proofs.reading.term_find.Goals as goal

pub returns-in_err-place : goal.returns-in_err-place
returns-in_err-place g c =
    let r = first_start-term_found (g.C.CountedLeaves.text c.args.source.now) c.args.token.now c.as_slice.result.now c.args.k None c.in_err-place.ensures.sound c.as_slice.ensures c.in_err-place.ensures.answer in
    search rules

pub returns : goal.returns
returns g c = record {
  answer = ap Some c.new.ensures
      ∙ first_start-term_found (g.C.CountedLeaves.text c.args.source.now) c.args.token.now c.as_slice.result.now c.args.k (Some c.in_ok-place.place) c.in_ok-place.ensures.sound c.as_slice.ensures c.in_ok-place.ensures.answer;
  counted = c.in_ok-place.ensures.counted;
  cost = c.in_ok-place.ensures.cost;
}
