use Rattle.std.proofs.Common.{◌<◌, [], ◌∷◌, ◌++◌, length, refl, sym, ap, ◌∙◌, subst, arith}
use Rattle.std.specs.Map.{keys_of}
use Rattle.shard_build.specs.Met.{NamesContent, list_at}
use Rattle.shard_build.proofs.NameLists.{Entries, keys_set, length_set, first_empty, later_filled, filled_push}
use Rattle.shard_build.proofs.NumberedNames.{numbered_kept}
use Rattle.shard_build.proofs.SeenNames.{names_more, names_grown, names_same}
use Rattle.shard_build.proofs.names.Names.put_at.Goals as goal

pub seen_at-requires : goal.seen_at-requires
seen_at-requires c =
    let es = c.self.inside.lists.items in
    let within = subst (λ (n : NamesContent). c.args.number < length n.entries) (sym c.self.view_is) c.requires.within in
    let kept = length_set es c.args.number (list_at es c.args.number ++ c.args.address ∷ []) in
    subst (λ (fs : Entries). c.args.number < length fs) (sym c.in_ok-is_first.ensures.ok) (omega (arith, within, kept))

pub invariant_of-self-then-is_first : goal.invariant_of-self-then-is_first
invariant_of-self-then-is_first c =
    let es = c.self.inside.lists.items in
    let fs = c.push_at.new.lists.items in
    let list = list_at es c.args.number in
    let grown = list ++ c.args.address ∷ [] in
    numbered_kept c.self.inside.numbers es fs c.push_reserved.new.self.items (ap keys_of c.in_ok-is_first.ensures.ok ∙ keys_set es c.args.number grown) c.self.invariant.numbers
    (names_more es fs c.self.inside.seen.items c.push_reserved.new.self.items c.seen_at.result c.args.number grown
    (c.push_reserved.ensures.items ∙ ap (λ l. l ++ c.seen_at.result ∷ []) c.reserve.ensures.items) c.seen_at.ensures.number c.in_ok-is_first.ensures.ok
    (subst (λ (n : NamesContent). c.args.number < length n.entries) (sym c.self.view_is) c.requires.within) (first_empty list (sym c.in_ok-is_first.ensures.first ∙ c.if-is_first.true)) (filled_push list c.args.address)
    c.seen_at.ensures.noted c.self.invariant.names)

pub invariant_of-self-else-is_first : goal.invariant_of-self-else-is_first
invariant_of-self-else-is_first c =
    let es = c.self.inside.lists.items in
    let fs = c.push_at.new.lists.items in
    let list = list_at es c.args.number in
    let grown = list ++ c.args.address ∷ [] in
    numbered_kept c.self.inside.numbers es fs c.reserve.new.self.items (ap keys_of c.in_ok-is_first.ensures.ok ∙ keys_set es c.args.number grown) c.self.invariant.numbers
    (names_grown es fs c.reserve.new.self.items c.args.number grown c.in_ok-is_first.ensures.ok
    (subst (λ (n : NamesContent). c.args.number < length n.entries) (sym c.self.view_is) c.requires.within)
    (later_filled list (sym c.in_ok-is_first.ensures.first ∙ c.if-is_first.false)) (filled_push list c.args.address)
    (names_same es es c.self.inside.seen.items c.reserve.new.self.items refl c.reserve.ensures.items c.self.invariant.names))
