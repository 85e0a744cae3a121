use Rattle.std.proofs.Common.{◌≡◌, ℕ, Bool, true, false, not, Result, Ok, Err, Some, sym, subst, ap, ◌∙◌}
use Rattle.std.proofs.lemmas.Slice.Eq.{bytes_eq-Decides}
use Rattle.std.specs.Prelude.{decimal}
use Rattle.std.specs.Str.{IsUtf8}
use Rattle.std.proofs.lemmas.Str.{IsUtf8-from_ascii}
use Rattle.std.proofs.lemmas.Fmt.{IsAscii-decimal, parse-decimal}
use Rattle.made_corpus.proofs.names.number_of.Goals as goal

not_both : {E : Type 0} (said : Result ℕ E) (fault : E) (n : ℕ) → said ≡ Err fault → said ≡ Ok n → ⊥
not_both said fault n err ok = cc

one_number : {E : Type 0} (said : Result ℕ E) (n k : ℕ) → said ≡ Ok n → said ≡ Ok k → n ≡ k
one_number said n k some other = cc

not_differs : (t : Bool) → true ≡ not t → t ≡ true → ⊥
not_differs true wrong is = cc
not_differs false wrong is = cc

pub returns-in-Err-clause-each : goal.returns-in-Err-clause-each
returns-in-Err-clause-each c n fits is = absurd (c.in-Err.ensures.cases.0 (subst IsUtf8 (sym is) (IsUtf8-from_ascii (decimal n) (IsAscii-decimal n fits))))

pub returns-in-Err-parse-clause-each : goal.returns-in-Err-parse-clause-each
returns-in-Err-parse-clause-each c n fits is =
    absurd (not_both c.parse.result _ n c.in-Err-parse.is (parse-decimal 64 n c.in-Ok.text.now c.parse.result fits fits (c.in-Ok.ensures.cases.0 ∙ is) c.parse.ensures.value.0))

pub returns-clause-each : goal.returns-clause-each
returns-clause-each c n fits is =
    ap Some (one_number c.parse.result _ n c.in-Ok-parse.is (parse-decimal 64 n c.in-Ok.text.now c.parse.result fits fits (c.in-Ok.ensures.cases.0 ∙ is) c.parse.ensures.value.0))

pub returns-then-ne-clause-each : goal.returns-then-ne-clause-each
returns-then-ne-clause-each c n fits is =
    let same : c.in-Ok-parse.number ≡ n = one_number c.parse.result _ n c.in-Ok-parse.is (parse-decimal 64 n c.in-Ok.text.now c.parse.result fits fits (c.in-Ok.ensures.cases.0 ∙ is) c.parse.ensures.value.0) in
    let bytes : c.as_bytes.result.now ≡ c.args.digits.now = c.as_bytes.ensures.value ∙ c.format.ensures.text ∙ ap decimal same ∙ sym is in
    absurd (not_differs _ (sym c.if-ne.true ∙ c.ne.ensures) ((bytes_eq-Decides c.as_bytes.result.now c.args.digits.now).1 bytes))
