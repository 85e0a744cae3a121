use Rattle.std.proofs.Common.{leb, ◌∙◌, ap, rules}
use Rattle.std.specs.List.{prefix_len}
use Rattle.std.proofs.lemmas.List.Sorted.{IsPartitionPoint-from_clause, IsPartitionedBy-leb}
use Rattle.gcl_model.specs.Texts.{Word}
use Rattle.plain_text.specs.declared.entry.Entry.{Entry}
use Rattle.gcl_model.proofs.Lists.{prefix_len_at_point}
use Rattle.plain_text.proofs.Entries.{prefix_len-words_in, entries_rise}
use Rattle.plain_text.proofs.text.PlainText.count_upto.Goals as goal

pub returns-clause-count : goal.returns-clause-count
returns-clause-count c =
    let t = c.self.inside in
    let k = c.args.k in
    let p = λ (e : Entry). leb e.address k in
    let xs = c.as_slice.result.now in
    let rise = entries_rise t.span.next t.span.first t.bytes.items 0 t.entries.items c.self.invariant.sound.rising in
    let point = IsPartitionPoint-from_clause p xs c.partition_point.result c.partition_point.ensures.partitioned (rw c.as_slice.ensures.value (IsPartitionedBy-leb (λ (e : Entry). e.address) t.entries.items k rise)) (λ a r f called. search rules) in
    prefix_len_at_point p xs c.partition_point.result c.partition_point.ensures.bound point
    ∙ ap (prefix_len p) c.as_slice.ensures.value
    ∙ prefix_len-words_in (λ n. leb n k) t.bytes.items 0 t.entries.items
    ∙ ap (λ t. prefix_len (λ (w : Word). leb w.address k) t.words) c.self.view_is
