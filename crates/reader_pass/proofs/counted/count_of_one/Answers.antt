use Rattle.std.proofs.Common.{◌≡◌, ◌++◌, ◌∷◌, [], false, List, length, map, take, bytes_eq, refl, sym, ap, ◌∙◌, arith}
use Rattle.std.specs.List.{list_any}
use Rattle.std.proofs.lemmas.List.{take_all}
use Rattle.gcl_model.specs.Forms.{Form, one}
use Rattle.gcl_model.specs.FormOf.{form_of, forms_from}
use Rattle.gcl_model.specs.Meaning.{concordance}
use Rattle.gcl_model.specs.Texts.{places}
use Rattle.live_version.specs.Contents.{version_text}
use Rattle.live_version.proofs.WordLemmas.{version_is_text}
use Rattle.reader_pass.specs.Members.{is_the_term}
use Rattle.reader_pass.proofs.TermCounts.{among_terms, count_new, count_again, few_stand, none_count, one_count, terms_more}
use Rattle.reader_pass.proofs.counted.count_of_one.Goals as goal
use Rattle.reader_pass.proofs.counted.count_of_one.Goals.{then-not-has_term, else-not-has_term}

pub loop-i-init : goal.loop-i-init
loop-i-init c = record { tokens = []; terms = refl; counted = sym (none_count (version_text c.args.version.now)) }

pub overflow_add-count : goal.overflow_add-count
overflow_add-count c =
    let text = version_text c.args.version.now in
    let tokens = c.loop-i.invariant.tokens in
    let token = c.in-Term.token in
    let sound = version_is_text c.args.version.now c.count_of_term-count.ensures.version in
    let new : list_any (λ other. bytes_eq other token) tokens ≡ false =
    sym (among_terms tokens token) ∙ sym (ap (list_any (is_the_term token)) c.loop-i.invariant.terms)
    ∙ sym (ap (λ t. list_any (is_the_term t) (map form_of (take c.loop-i.i c.args.operands.now))) c.as_slice.ensures) ∙ sym c.has_term.ensures ∙ c.if-not-has_term.true in
    let sum = count_new text tokens token sound new in
    let few = few_stand text (tokens ++ token ∷ []) sound in
    let before = c.loop-i.invariant.counted in
    let one = c.count_of_term-count.ensures.places ∙ ap (λ t. length (places text.words t)) c.as_slice-then-not-has_term.ensures in
    omega (arith, sum, few, before, one)

pub loop-i-preserved : goal.loop-i-preserved
loop-i-preserved c =
    let text = version_text c.args.version.now in
    let tokens = c.loop-i.invariant.tokens in
    let token = c.in-Term.token in
    let before = c.loop-i.invariant.counted in
    let known : list_any (λ other. bytes_eq other token) tokens ≡ c.has_term.result =
    sym (among_terms tokens token) ∙ sym (ap (list_any (is_the_term token)) c.loop-i.invariant.terms)
    ∙ sym (ap (λ t. list_any (is_the_term t) (map form_of (take c.loop-i.i c.args.operands.now))) c.as_slice.ensures) ∙ sym c.has_term.ensures in
    record {
      tokens = tokens ++ token ∷ [];
      terms = terms_more c.args.operands.now c.loop-i.i c.index-operands-i.result token tokens c.loop-i-test.true c.index-operands-i.is c.in-Term.is c.loop-i.invariant.terms;
      counted = elim c.if-not-has_term.branch [
        | then-not-has_term w ↦
            let sum = count_new text tokens token (version_is_text c.args.version.now w.count_of_term-count.ensures.version) (known ∙ w.if-not-has_term.true) in
            let one = w.count_of_term-count.ensures.places ∙ ap (λ t. length (places text.words t)) w.as_slice-then-not-has_term.ensures in
            let is = w.count-is in
            omega (arith, sum, before, one, is)
        | else-not-has_term w ↦ w.count-is ∙ before ∙ sym (count_again text tokens token (known ∙ w.if-not-has_term.false))
      ];
    }

pub returns : goal.returns
returns c =
    let text = version_text c.args.version.now in
    let tokens = c.loop-i.invariant.tokens in
    let sound = version_is_text c.args.version.now c.slot_count.ensures.version in
    let terms = ap (map form_of) (sym (take_all c.loop-i.i c.args.operands.now c.loop-i-test.false)) ∙ c.loop-i.invariant.terms in
    c.loop-i.invariant.counted ∙ sym (one_count text tokens sound) ∙ ap (λ (forms : List Form). length (concordance text (one (forms_from forms)))) (sym terms)
