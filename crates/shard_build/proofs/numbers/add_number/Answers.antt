use Rattle.std.proofs.Common.{◌≡◌, Some, is_some, length, nat_eq, sym, ap, ◌∙◌}
use Rattle.std.specs.Map.{keys_of, update}
use Rattle.std.proofs.lemmas.List.{length-map}
use Rattle.shard_build.specs.Met.{hash_by, told_by}
use Rattle.shard_build.proofs.Numbering.{not_some, tells_met, tells_new}
use Rattle.shard_build.proofs.numbers.add_number.Goals as goal

pub returns-then-contains_key-clause-ok : goal.returns-then-contains_key-clause-ok
returns-then-contains_key-clause-ok c =
    tells_met (hash_by c.args.numbers.now.initial) (told_by c.args.numbers.now) (keys_of c.args.lists.now.items) c.args.name.now
    (ap (λ hash. is_some (told_by c.args.numbers.now hash)) (sym c.hash_of-hash.ensures) ∙ sym c.contains_key.ensures ∙ c.if-contains_key.true) c.requires

pub returns-clause-ok : goal.returns-clause-ok
returns-clause-ok c =
    let hashed = hash_by c.args.numbers.now.initial in
    let told = told_by c.args.numbers.now in
    let names = keys_of c.args.lists.now.items in
    let last : c.len.result ≡ length names = c.len.ensures ∙ c.args.lists.now.ok.0 ∙ sym (length-map c.args.lists.now.items (λ e. e.0)) in
    tells_new hashed told (told_by (record { initial = c.args.numbers.now.initial; places = c.insert.new.self })) names c.args.name.now
    (λ hash.
    c.in_ok-insert.ensures.updates.0 hash ∙ ap (λ k. update nat_eq told k (Some c.len.result) hash) c.hash_of-hash.ensures
    ∙ ap (λ n. update nat_eq told (hashed c.args.name.now) (Some n) hash) last)
    (not_some (told (hashed c.args.name.now)) (ap (λ hash. is_some (told hash)) (sym c.hash_of-hash.ensures) ∙ sym c.contains_key.ensures ∙ c.if-contains_key.false)) c.requires
