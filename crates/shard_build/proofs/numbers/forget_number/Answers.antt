use Rattle.std.proofs.Common.{◌≡◌, None, Some, length, nat_eq, sym, ap, ◌∙◌}
use Rattle.std.specs.Map.{keys_of, update}
use Rattle.std.proofs.lemmas.List.{length-map}
use Rattle.shard_build.specs.Met.{hash_by, told_by}
use Rattle.shard_build.proofs.Numbering.{other_option, same_option, tells_less, tells_same}
use Rattle.shard_build.proofs.numbers.forget_number.Goals as goal

pub returns-then-eq : goal.returns-then-eq
returns-then-eq c =
    let told = told_by c.args.numbers.now in
    let names = keys_of c.args.lists.now.items in
    let last : c.len.result ≡ length names = c.len.ensures ∙ c.args.lists.now.ok.0 ∙ sym (length-map c.args.lists.now.items (λ e. e.0)) in
    tells_less (hash_by c.args.numbers.now.initial) told (told_by (record { initial = c.args.numbers.now.initial; places = c.remove.new.self })) names c.args.name.now
    (λ hash. c.remove.ensures.updates.0 hash ∙ ap (λ k. update nat_eq told k None hash) c.hash_of-hash.ensures)
    (ap told (sym c.hash_of-hash.ensures) ∙ sym (c.copied.ensures ∙ c.get.ensures.value) ∙ same_option c.copied.result (Some c.len.result) (sym c.eq.ensures ∙ c.if-eq.true) ∙ ap (λ n. Some n) last) c.requires

pub returns-else-eq : goal.returns-else-eq
returns-else-eq c =
    let told = told_by c.args.numbers.now in
    let names = keys_of c.args.lists.now.items in
    let last : c.len.result ≡ length names = c.len.ensures ∙ c.args.lists.now.ok.0 ∙ sym (length-map c.args.lists.now.items (λ e. e.0)) in
    tells_same (hash_by c.args.numbers.now.initial) told names c.args.name.now
    (λ is.
    other_option c.copied.result (Some c.len.result) (sym c.eq.ensures ∙ c.if-eq.false) (c.copied.ensures ∙ c.get.ensures.value ∙ ap told c.hash_of-hash.ensures ∙ is ∙ ap (λ n. Some n) (sym last))) c.requires
