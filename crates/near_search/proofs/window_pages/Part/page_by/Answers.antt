use Rattle.std.proofs.Common.{◌<◌, ◌≤◌, List, length, refl, arith}
use Rattle.gcl_eval.specs.Members.{members_from}
use Rattle.gcl_model.specs.Extents.{Extent}
use Rattle.gcl_model.specs.FormOf.{form_of}
use Rattle.near_search.specs.inner.Windows.{list_of_part, text_of_part}
use Rattle.near_search.proofs.WindowLemmas.{behind_below, full_leaves, page_fits, short_leaves}
use Rattle.near_search.proofs.window_pages.Part.page_by.Goals as goal

pub returns-then-len-most-clause-page : goal.returns-then-len-most-clause-page
returns-then-len-most-clause-page g c =
    let page : List Extent = c.in_ok-page.page in
    let less : length page < c.args.most = omega arith in
    record {
      ok = c.in_ok-page.ensures.ok;
      rest = short_leaves c.args.most (members_from (list_of_part c.args.self.now) c.args.from) page c.in_ok-page.ensures.ok less;
      is = record {
        last = c.requires.is.last;
        well_formed = c.requires.is.well_formed;
        below = behind_below c.args.from page c.requires.is.below c.in_ok-page.ensures.below;
        standing = tt;
      };
      short = λ less. refl;
      below = c.in_ok-page.ensures.below;
    }

pub returns-clause-page : goal.returns-clause-page
returns-clause-page g c =
    let page : List Extent = c.in_ok-page.page in
    let enough : c.args.most ≤ length page = omega arith in
    let fits : length page ≤ c.args.most = page_fits c.args.most (members_from (list_of_part c.args.self.now) c.args.from) page c.in_ok-page.ensures.ok in
    record {
      ok = c.in_ok-page.ensures.ok;
      rest = full_leaves (text_of_part c.args.self.now) (form_of c.args.self.now.expr.value) c.args.from c.args.most page c.requires.some c.in_ok-page.ensures.ok enough;
      is = record {
        last = c.requires.is.last;
        well_formed = c.requires.is.well_formed;
        below = behind_below c.args.from page c.requires.is.below c.in_ok-page.ensures.below;
        standing = (c.read_by.ensures.stands, c.in_ok-page.ensures.left (omega arith));
      };
      short = λ less. absurd (omega arith);
      below = c.in_ok-page.ensures.below;
    }
