use Rattle.std.proofs.Common.{◌≡◌, ◌+◌, ◌<◌, length, sym, ap, ◌∙◌, arith}
use Rattle.gcl_model.specs.Extents.{Extent}
use Rattle.gcl_readers.specs.Reading.{behind_page}
use Rattle.near_search.proofs.WindowLemmas.{behind_at}
use Rattle.near_search.proofs.window_pages.behind.Goals as goal

pub returns-in-len1-up : goal.returns-in-len1-up
returns-in-len1-up c =
    let same : c.as_slice.result.now ≡ c.args.page.now = c.as_slice.ensures in
    let some : 0 < length c.as_slice.result.now = omega arith in
    ap (λ (a : Extent). a.start + 1) (c.last.view_is ∙ c.last-item.is)
    ∙ sym (behind_at c.args.from c.as_slice.result.now c.last-item.result some)
    ∙ ap (behind_page c.args.from) same
