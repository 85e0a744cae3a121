use Rattle.std.proofs.Common.{◌≡◌, ℕ, List, Option, None, Some, refl, sym, ap, subst, Ok, Err}
use Rattle.gcl_parser.specs.Refusal.{refused}
use Rattle.gcl_parser.specs.declared.fault.QueryFault.{QueryFault}
use Rattle.gcl_parser.specs.declared.fault.ParseFault.{ParseFault}
use Rattle.gcl_parser.specs.declared.fault.ParseFault.TheVariants.{Query as ParseQuery, NoMemory as ParseNoMemory}
use Rattle.query_names.specs.declared.fault.DefineFault.{DefineFault}
use Rattle.query_names.specs.Defining.{IsRefusal}
use Rattle.query_names.specs.Faults.{of_parse}
use Rattle.query_names.proofs.definitions.test.Goals as goal

none_of : (r : Option QueryFault) → ((fault : QueryFault) → r ≡ Some fault → ⊥) → r ≡ None
none_of None wrong = refl
none_of (Some fault) wrong = absurd (wrong fault refl)

refusal_of : (query : List ℕ) (fault : ParseFault) → ((q : QueryFault) → fault ≡ ParseQuery q → refused query ≡ Some q) → IsRefusal query (of_parse fault)
refusal_of query (ParseQuery q) is = is q refl
refusal_of query ParseNoMemory is = tt

apart : {T E : Type 0} (t : T) (e : E) → Ok t ≡ Err e → ⊥
apart t e is = cc

pub returns-in-Ok-clause-ok : goal.returns-in-Ok-clause-ok
returns-in-Ok-clause-ok c = none_of (refused c.args.query.now) (λ fault is. apart c.in-Ok._expr (ParseQuery fault) ((c.in-Ok.ensures.query fault).1 is))

pub returns-in-Err-clause-err : goal.returns-in-Err-clause-err
returns-in-Err-clause-err c =
    subst (λ (f : DefineFault). IsRefusal c.args.query.now f) (sym c.into.ensures) (refusal_of c.args.query.now c.in-Err.fault (λ q is. (c.in-Err.ensures.query q).0 (ap (λ f. Err f) is)))
