use Rattle.std.proofs.Common.{◌^◌, sym, ◌∙◌, subst, ◌++◌, ◌∷◌, get_or, []}
use Rattle.std.proofs.lemmas.List.{take_all}
use Rattle.posting_code.specs.Postings.{ArePostings}
use Rattle.posting_code.proofs.Rising.{rise_take_next}
use Rattle.posting_code.proofs.Steps.{no_value}
use Rattle.posting_code.proofs.maker.encode.Goals as goal

pub push-requires : goal.push-requires
push-requires c =
    subst (λ xs. ArePostings (xs ++ get_or c.args.addresses.now c.loop-address.address-index 0 ∷ [])) (sym c.loop-address.invariant)
    (rise_take_next 0 (2 ^ 56) c.args.addresses.now c.loop-address.address-index c.requires c.loop-address-test.true)

pub returns-in_err-push : goal.returns-in_err-push
returns-in_err-push c = no_value _ c.from_residual.result _ c.from_residual.ensures.1

pub returns : goal.returns
returns c = c.finish.ensures ∙ c.loop-address.invariant ∙ take_all c.loop-address.address-index c.args.addresses.now c.loop-address-test.false
