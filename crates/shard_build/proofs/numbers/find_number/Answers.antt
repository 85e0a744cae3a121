use Rattle.std.proofs.Common.{sym, ap, ◌∙◌}
use Rattle.std.specs.Map.{keys_of}
use Rattle.shard_build.specs.Met.{hash_by, told_by}
use Rattle.shard_build.proofs.Numbering.{found_by_hash, none_by_hash}
use Rattle.shard_build.proofs.numbers.find_number.Goals as goal

pub returns-in_default : goal.returns-in_default
returns-in_default c =
    let numbers = c.args.numbers.now in
    none_by_hash (hash_by numbers.initial) (told_by numbers) (keys_of c.args.lists.now.items) c.args.token.now c.requires
    (ap (told_by numbers) (sym c.hash_of.ensures) ∙ sym (c.copied.ensures ∙ c.get.ensures.value) ∙ c.in_default.is)

pub returns-then-is_name_at : goal.returns-then-is_name_at
returns-then-is_name_at c =
    let numbers = c.args.numbers.now in
    found_by_hash (hash_by numbers.initial) (told_by numbers) (keys_of c.args.lists.now.items) c.args.token.now c.in-Some.number c.requires
    (ap (told_by numbers) (sym c.hash_of.ensures) ∙ sym (c.copied.ensures ∙ c.get.ensures.value) ∙ c.in-Some.is) (sym c.is_name_at.ensures ∙ c.if-is_name_at.true)
