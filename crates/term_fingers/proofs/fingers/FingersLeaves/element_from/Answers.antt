use Rattle.std.proofs.Common.{◌≡◌, ℕ, ◌+◌, List, Option, Some, None, IsSome, sym, ◌∙◌, subst, arith}
use Rattle.gcl_model.specs.Elements.{IsElementFrom}
use Rattle.live_version.specs.Contents.{VersionContent, live_of}
use Rattle.term_fingers.proofs.fingers.FingersLeaves.element_from.Goals as goal

nothing_some : {X P : Type 0} (o : Option X) → o ≡ None → IsSome o → P
nothing_some None none some = absurd (cc some)
nothing_some (Some x) none some = absurd (cc none)

counted_thrice : (s a b d : ℕ) → a ≡ s + 1 → b ≡ a + 1 → d ≡ b + 1 → d ≡ s + 3
counted_thrice s a b d e f h = omega arith

pub returns-in_err-term-clause-some : goal.returns-in_err-term-clause-some
returns-in_err-term-clause-some g c = nothing_some c.from_residual.result c.from_residual.ensures

pub returns-in_err-behind-clause-some : goal.returns-in_err-behind-clause-some
returns-in_err-behind-clause-some g c = nothing_some c.from_residual-in_err-behind.result c.from_residual-in_err-behind.ensures

pub returns-in_err-element-clause-some : goal.returns-in_err-element-clause-some
returns-in_err-element-clause-some g c = nothing_some c.from_residual-in_err-element.result c.from_residual-in_err-element.ensures

pub returns-clause-answer : goal.returns-clause-answer
returns-clause-answer g c =
    let e = c.in_ok-element.element in
    let version : c.args.self.now ≡ g.J.Naming.version = sym c.self.view_is ∙ c.self.invariant in
    subst (λ (v : VersionContent). IsElementFrom (live_of v.slots) c.args.first.now c.args.second.now c.args.k e) (sym version)
    (subst (λ (bytes : List ℕ). IsElementFrom (live_of g.J.Naming.version.slots) bytes c.args.second.now c.args.k e) c.in_ok-term.ensures
    (subst (λ (bytes : List ℕ). IsElementFrom (live_of g.J.Naming.version.slots) c.in_ok-term.term.now.bytes.now bytes c.args.k e) c.in_ok-behind.ensures c.in_ok-element.ensures))

pub returns-clause-none : goal.returns-clause-none
returns-clause-none g c = λ none. absurd (cc none)

pub returns-clause-some : goal.returns-clause-some
returns-clause-some g c = λ _. counted_thrice c.args.steps.now c.tick.new.self c.tick-2.new.self c.tick-3.new.self c.tick.ensures c.tick-2.ensures c.tick-3.ensures
