use Rattle.std.proofs.Common.{◌≡◌, ◌∷◌, length, Some, option_map, ◌∙◌, ap, sym, inl}
use Rattle.std.proofs.lemmas.List.{nil_from_length}
use Rattle.command_words.specs.Grammar.{pairs_of}
use Rattle.share_run.proofs.WordLemmas.{joined_pairs, last_pairs, spaced_pairs}
use Rattle.share_run.proofs.words.first_of.Goals as goal

pub returns-in-Some-clause-some : goal.returns-in-Some-clause-some
returns-in-Some-clause-some c =
    let word = c.as_slice-name.result.now in
    let rest = c.in_ok-word.rest.now in
    let words : c.args.words.now ≡ word ∷ rest = c.in_ok-word.ensures.cases.0 ∙ ap (λ w. w ∷ rest) (sym c.as_slice-name.ensures) in
    ap pairs_of words ∙ joined_pairs word rest c.in-Some.at c.in-Some.ensures
    ∙ (λ i. option_map (λ pairs. (sym c.cut_at.ensures.name i, sym c.cut_at.ensures.value i) ∷ pairs) (pairs_of (sym c.cut_at.ensures.rest i)))

pub returns-in_err-next-clause-none : goal.returns-in_err-next-clause-none
returns-in_err-next-clause-none c = λ _.
    let word = c.as_slice-name.result.now in
    let rest = c.in_ok-word.rest.now in
    let words : c.args.words.now ≡ word ∷ rest = c.in_ok-word.ensures.cases.0 ∙ ap (λ w. w ∷ rest) (sym c.as_slice-name.ensures) in
    inl (ap pairs_of words ∙ ap (λ r. pairs_of (word ∷ r)) (nil_from_length rest c.in_err-next.ensures.cases) ∙ last_pairs word c.in_default.ensures)

pub returns-clause-some : goal.returns-clause-some
returns-clause-some c =
    let word = c.as_slice-name.result.now in
    let value = c.as_slice-value.result.now in
    let rest = c.in_ok-word.rest.now in
    let words : c.args.words.now ≡ word ∷ rest = c.in_ok-word.ensures.cases.0 ∙ ap (λ w. w ∷ rest) (sym c.as_slice-name.ensures) in
    let next : rest ≡ value ∷ c.in_ok-next.rest.now = c.in_ok-next.ensures.cases.0 ∙ ap (λ w. w ∷ c.in_ok-next.rest.now) (sym c.as_slice-value.ensures) in
    ap pairs_of words ∙ ap (λ r. pairs_of (word ∷ r)) next ∙ spaced_pairs word value c.in_ok-next.rest.now c.in_default.ensures
