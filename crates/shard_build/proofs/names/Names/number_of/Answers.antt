use Rattle.std.proofs.Common.{◌≡◌, ◌<◌, ◌∷◌, ◌++◌, [], None, bytes_eq, length, unwrap_or, sym, ap, ◌∙◌, subst}
use Rattle.std.specs.List.{position_from}
use Rattle.std.specs.Map.{keys_of}
use Rattle.shard_build.specs.Met.{AreNumbersOf, NamesContent, addresses_of, list_at, name_at}
use Rattle.shard_build.proofs.NameLists.{Entries, met_list, new_list, new_lists}
use Rattle.shard_build.proofs.NumberedNames.{entry_pushed, no_list, number_found, numbered_new}
use Rattle.shard_build.proofs.names.Names.number_of.Goals as goal
use Rattle.shard_build.proofs.names.Names.number_of.Goals.{After-push_reserved, In-Some}

-- a name that was met has the number that is found
met : (c : In-Some) → (c.in-Some.number < length c.self.inside.lists.items) × (name_at c.self.inside.lists.items c.in-Some.number ≡ c.args.token.now)
met c = number_found c.self.inside.lists.items c.args.token.now c.in-Some.number (sym c.in-Some.is ∙ c.find_number.ensures)

pub returns-in-Some-clause-within : goal.returns-in-Some-clause-within
returns-in-Some-clause-within c = subst (λ (n : NamesContent). c.in-Some.number < length n.entries) c.self.view_is (met c).0

pub returns-in-Some-clause-name : goal.returns-in-Some-clause-name
returns-in-Some-clause-name c = subst (λ (n : NamesContent). name_at n.entries c.in-Some.number ≡ c.args.token.now) c.self.view_is (met c).1

pub returns-in-Some-clause-list : goal.returns-in-Some-clause-list
returns-in-Some-clause-list c =
    subst (λ (n : NamesContent). list_at n.entries c.in-Some.number ≡ unwrap_or (addresses_of n c.args.token.now) []) c.self.view_is
    (met_list c.self.inside.lists.items c.args.token.now c.in-Some.number c.self.invariant.names.distinct (met c).0 (met c).1)

-- the new name is last, without addresses
pushed : (c : After-push_reserved) → c.push_reserved.new.self.items ≡ c.self.inside.lists.items ++ (c.args.token.now, []) ∷ []
pushed c =
    entry_pushed c.self.inside.lists.items c.push_reserved.new.self.items c.in_ok-name.name c.args.token.now c.new.result
    (c.push_reserved.ensures.items ∙ ap (λ es. es ++ (c.in_ok-name.name, c.new.result) ∷ []) c.reserve.ensures.items) c.in_ok-name.ensures c.new.ensures

none : (c : After-push_reserved) → None ≡ position_from (bytes_eq c.args.token.now) 0 (keys_of c.self.inside.lists.items)
none c = sym c.in_default.is ∙ c.find_number.ensures

last : (c : After-push_reserved) → c.len-number.result ≡ length c.self.inside.lists.items
last c = c.len-number.ensures ∙ c.self.inside.lists.ok.0

pub invariant_of-self-2 : goal.invariant_of-self-2
invariant_of-self-2 c =
    numbered_new c.add_number.new.numbers c.self.inside.lists.items c.push_reserved.new.self.items c.args.token.now c.self.inside.seen.items
    (pushed c) (subst (λ (es : Entries). AreNumbersOf c.add_number.new.numbers (keys_of es ++ c.args.token.now ∷ [])) c.reserve.ensures.items c.in_ok-add_number.ensures.ok) (none c) c.self.invariant.names

pub returns-clause-distinct : goal.returns-clause-distinct
returns-clause-distinct c = (invariant_of-self-2 c).names.distinct

pub returns-clause-list : goal.returns-clause-list
returns-clause-list c =
    let es = c.self.inside.lists.items in
    new_list es c.push_reserved.new.self.items c.args.token.now c.args.token.now c.len-number.result (pushed c) (last c) (no_list es c.args.token.now (none c))
    ∙ ap (λ (n : NamesContent). unwrap_or (addresses_of n c.args.token.now) []) c.self.view_is

pub returns-clause-lists : goal.returns-clause-lists
returns-clause-lists c = λ cs.
    new_lists c.self.inside.lists.items c.push_reserved.new.self.items c.args.token.now cs (pushed c) ∙ ap (λ (n : NamesContent). addresses_of n cs) c.self.view_is
