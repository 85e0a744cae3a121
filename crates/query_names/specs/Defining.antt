-- What a definition changes, and why one is refused.
use Rattle.std.specs.Prelude.{◌≡◌, ℕ, List, ◌∷◌, None, Some, Result, Ok, Err, ⊤}
use Rattle.gcl_parser.specs.Refusal.{refused}
use Rattle.query_names.specs.Names.{Defined}
use Rattle.query_names.specs.PutIn.{put_in}
use Rattle.query_names.specs.declared.fault.DefineFault.{DefineFault}
use Rattle.query_names.specs.declared.fault.DefineFault.TheVariants.{Name, Query, NoMemory}

-- the text with all names put in is a query
pub record IsQueryText (defined : Defined) (text query : List ℕ) : Type 0 where
  pub put : put_in defined text ≡ Ok query
  pub taken : refused query ≡ None

-- the name has one more definition, whose text is a query; or nothing changed
abbrev pub Defines : Defined → Defined → List ℕ → List ℕ → Result (Unit {0}) DefineFault → Type 0
Defines old new name text (Ok _) = (query : List ℕ) × IsQueryText old text query × (new ≡ (name, query) ∷ old)
Defines old new name text (Err _) = new ≡ old

-- a refusal comes from the names, or from the query that the text is once they are put in
abbrev pub HasDefineCause : Defined → List ℕ → Result (Unit {0}) DefineFault → Type 0
HasDefineCause defined text (Ok _) = ⊤
HasDefineCause defined text (Err (Name fault)) = put_in defined text ≡ Err fault
HasDefineCause defined text (Err (Query fault)) = (query : List ℕ) × (put_in defined text ≡ Ok query) × (refused query ≡ Some fault)
HasDefineCause defined text (Err NoMemory) = ⊤

-- the fault is that the text is not a query, or that there is no memory
abbrev pub IsRefusal : List ℕ → DefineFault → Type 0
IsRefusal query (Name fault) = ⊥
IsRefusal query (Query fault) = refused query ≡ Some fault
IsRefusal query NoMemory = ⊤
