use Rattle.std.proofs.Common.{◌+◌, length, ap, ◌∙◌, sym, subst}
use Rattle.gcl_model.specs.Extents.{IsRising}
use Rattle.near_search.specs.Contents.{starts_by}
use Rattle.change_search.specs.inner.Sides.{accesses_left, look_ups_by, to_come}
use Rattle.change_search.proofs.CostLemmas.{same_accesses}
use Rattle.change_search.proofs.SideLemmas.{length_rest, past_first, rest_rises}
use Rattle.change_search.proofs.side.Side.pass.Goals as goal

pub returns-clause-members : goal.returns-clause-members
returns-clause-members c = past_first (starts_by c.args.self.now.high) c.args.self.now.page c.args.self.now.rest.to_come c.args.self.now.at c.requires.found.0 c.requires.found.1

pub returns-clause-side : goal.returns-clause-side
returns-clause-side c = record {
  rising =
      subst IsRising (sym (past_first (starts_by c.args.self.now.high) c.args.self.now.page c.args.self.now.rest.to_come c.args.self.now.at c.requires.found.0 c.requires.found.1))
      (rest_rises (to_come c.args.self.now) c.requires.side.rising);
  full = c.requires.side.full;
  size = c.requires.side.size;
}

pub returns-clause-look_ups : goal.returns-clause-look_ups
returns-clause-look_ups c =
    ap (look_ups_by c.args.self.now.rest.way)
    (ap (λ l. accesses_left (length l) (c.args.self.now.at + 1) c.args.self.now.size)
    (past_first (starts_by c.args.self.now.high) c.args.self.now.page c.args.self.now.rest.to_come c.args.self.now.at c.requires.found.0 c.requires.found.1)
    ∙ ap (λ n. accesses_left n (c.args.self.now.at + 1) c.args.self.now.size) (length_rest (to_come c.args.self.now))
    ∙ same_accesses (length (to_come c.args.self.now)) c.args.self.now.at c.args.self.now.size c.requires.found.1)
