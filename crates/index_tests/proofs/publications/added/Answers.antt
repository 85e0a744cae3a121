use Rattle.std.proofs.Common.{rules, ◌≡◌, ℕ, ◌+◌, ◌≤◌, true, List, [], ◌∷◌, ◌++◌, length, refl, sym, ap, subst, arith, inl}
use Rattle.std.proofs.lemmas.Bool.Decides.{nat_tests}
use Rattle.std.specs.List.{AllByRecursion}
use Rattle.gcl_model.specs.Collections.{Collection, CanAdd, IsToken, with_file, width_of}
use Rattle.gcl_model.specs.Limits.{address_end}
use Rattle.gcl_model.specs.Names.{is_name}
use Rattle.live_version.specs.StandsFor.{StandsFor}
use Rattle.word_tokens.proofs.TokenLemmas.{tokens_are_tokens}
use Rattle.manifest_publish.specs.Histories.{IsLawful}
use Rattle.manifest_publish.specs.Accounts.{EndsWith}
use Rattle.manifest_publish.proofs.Stands.{lawful-step}
use Rattle.index_tests.proofs.publications.added.Goals as goal

can-add : (c : Collection) (name : List ℕ) (tokens : List (List ℕ)) → c.next + width_of tokens ≤ address_end → is_name name ≡ true → AllByRecursion IsToken tokens → CanAdd c name tokens
can-add c name tokens fits named all = record { fits = fits; named = named; are_tokens = all }

pub returns : goal.returns
returns c =
    let history = c.args.publisher.now.history in
    let last = c.deref-last.result.now in
    let ends : EndsWith history last = search rules in
    let same = c.in_ok-version.ensures.value in
    let tokens : List (List ℕ) = c.in_ok-words.words in
    let all : AllByRecursion IsToken tokens = subst (AllByRecursion IsToken) (sym c.in_ok-words.ensures) (tokens_are_tokens c.args.bytes.now) in
    let name = c.in_ok-copy_of.field-0 in
    let a_is_name : is_name (97 ∷ []) ≡ true = search rules in
    let named : is_name name ≡ true = subst (λ n. is_name n ≡ true) (sym c.in_ok-copy_of.ensures) a_is_name in
    let base : c.next-base.result ≡ last.next = c.next-base.ensures.value in
    let count : c.len-count.result ≡ length tokens = search rules in
    let width : c.len-count.result + 2 ≡ width_of tokens = omega (arith, count) in
    let room : last.next + width_of tokens ≤ address_end = grind (arith, nat_tests) in
    subst (λ shared. IsLawful (history ++ shared ∷ [])) (sym c.in_ok-shared.ensures)
    (lawful-step history last c.in_ok-version.version ends.0 ends.1 (ap (λ w. w.number) same) (ap (λ w. w.edition) same)
    (λ (d : Collection) (s : StandsFor last d). (
      with_file d name tokens,
      inl (name, tokens, can-add d name tokens (subst (λ n. n + width_of tokens ≤ address_end) s.next room) named all, refl),
      c.in_ok-version.ensures.stands d tokens s (record { len = width; words = c.in_ok-shard.ensures.words }),
    )))
