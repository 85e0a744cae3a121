use Rattle.std.proofs.Common.{◌≡◌, ◌-◌, ◌++◌}
use Rattle.made_corpus.specs.MadeFiles.{items_from, content_from}
use Rattle.made_corpus.proofs.ItemLemmas.{behind_spaces}
use Rattle.made_corpus.proofs.items.put_content.Given as goal

-- what is written, and then the items that are left, is the content
abbrev pub invariant-loop-i : goal.invariant-loop-i
invariant-loop-i l = l.out.items ++ behind_spaces (items_from (l.later - l._i) l.draws.state) ≡ l.fn.out.items ++ content_from l.fn.state
