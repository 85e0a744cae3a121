use Rattle.std.proofs.Common.{ltb, ◌∙◌, ap, rules}
use Rattle.std.specs.List.{prefix_len}
use Rattle.std.proofs.lemmas.List.Sorted.{IsPartitionPoint-from_clause, IsPartitionedBy-ltb}
use Rattle.gcl_model.specs.Texts.{Word}
use Rattle.plain_text.specs.declared.entry.Entry.{Entry}
use Rattle.gcl_model.proofs.Lists.{prefix_len_at_point}
use Rattle.plain_text.proofs.Entries.{prefix_len-words_in, entries_rise}
use Rattle.plain_text.proofs.text.PlainText.count_before.Goals as goal

pub returns-clause-count : goal.returns-clause-count
returns-clause-count c =
    let t = c.self.inside in
    let k = c.args.k in
    let p = λ (e : Entry). ltb e.address k in
    let xs = c.as_slice.result.now in
    let rise = entries_rise t.span.next t.span.first t.bytes.items 0 t.entries.items c.self.invariant.sound.rising in
    let point = IsPartitionPoint-from_clause p xs c.partition_point.result c.partition_point.ensures.partitioned (rw c.as_slice.ensures.value (IsPartitionedBy-ltb (λ (e : Entry). e.address) t.entries.items k rise)) (λ a r f called. search rules) in
    prefix_len_at_point p xs c.partition_point.result c.partition_point.ensures.bound point
    ∙ ap (prefix_len p) c.as_slice.ensures.value
    ∙ prefix_len-words_in (λ n. ltb n k) t.bytes.items 0 t.entries.items
    ∙ ap (λ t. prefix_len (λ (w : Word). ltb w.address k) t.words) c.self.view_is
