-- Laws of the grammar and of the refusal.
use Rattle.std.specs.Prelude.{◌≡◌, ◌↔◌, ℕ, List, None, Some}
use Rattle.gcl_model.specs.Forms.{Form}
use Rattle.gcl_parser.specs.Grammar.{IsQuery, IsQueryWithin}
use Rattle.gcl_parser.specs.Refusal.{refused}
use Rattle.gcl_parser.specs.QueryForm.{query_form}

-- a text is not refused if and only if it is a query within the limits
abbrev pub QueriesAreNotRefused : Type 0
QueriesAreNotRefused = (text : List ℕ) → (refused text ≡ None) ↔ ((form : Form) × IsQueryWithin text form)

-- a text stands for one form at most
abbrev pub QueriesStandForOneForm : Type 0
QueriesStandForOneForm = (text : List ℕ) (a b : Form) → IsQuery text a → IsQuery text b → a ≡ b

-- the form that one pass over the tokens gives is the one that the grammar relates to the text, and none if the text is refused
abbrev pub QueryFormsAreOfQueries : Type 0
QueryFormsAreOfQueries = (text : List ℕ) (form : Form) → (query_form text ≡ Some form) ↔ IsQueryWithin text form
