use Rattle.std.proofs.Common.{sym, subst}
use Rattle.std.specs.List.{AllByRecursion}
use Rattle.live_version.specs.Contents.{live_of}
use Rattle.slot_terms.specs.Parts.{IsPart}
use Rattle.shard_merge.specs.Merged.{AreWordsOf}
use Rattle.shard_merge.proofs.Runs.{merged_words, parts_are_tables, words_of_slots}
use Rattle.shard_merge.proofs.merging.merged_shard.Goals as goal

pub merge_terms-requires-clause-parts : goal.merge_terms-requires-clause-parts
merge_terms-requires-clause-parts c = subst (AllByRecursion IsPart) (sym c.in_ok-terms.ensures.value) (parts_are_tables c.args.slots.now c.requires.slots)

pub merge_terms-requires-clause-words : goal.merge_terms-requires-clause-words
merge_terms-requires-clause-words c = (
  live_of c.args.slots.now,
  subst (λ parts. AreWordsOf c.args.range parts (live_of c.args.slots.now)) (sym c.in_ok-terms.ensures.value) (words_of_slots c.args.range c.args.slots.now c.requires.slots c.requires.apart),
)

pub returns-clause-words : goal.returns-clause-words
returns-clause-words c =
    let made = c.in_ok-shard.ensures in
    merged_words c.args.range c.args.slots.now c.in_ok-terms.terms c.in_ok-shard.shard c.requires.slots c.requires.apart c.in_ok-terms.ensures.value made.shard made.range made.postings
