-- What is asked of a text depends only on the named words.
use Rattle.std.specs.Prelude.{◌≡◌, ℕ, List}
use Rattle.gcl_model.specs.Texts.{Text}
use Rattle.gcl_model.specs.Forms.{Form}
use Rattle.gcl_model.specs.Meaning.{concordance}
use Rattle.gcl_model.specs.Cost.{cost}
use Rattle.gcl_model.specs.Wide.{wide}
use Rattle.wide_terms.specs.Expansion.{expansion}
use Rattle.gcl_readers.specs.MergeCost.{merge_cost}
use Rattle.text_search.specs.FileTexts.{file_text}
use Rattle.text_search.specs.Names.{names_of, named_text, query_text}

-- the concordance list is that over the whole text
abbrev pub NamesDecideTheList : Type 0
NamesDecideTheList = (text : Text) (form : Form) → concordance (named_text (names_of form) text) form ≡ concordance text form

-- an access may make as many look-ups as over the whole text
abbrev pub NamesDecideTheCost : Type 0
NamesDecideTheCost = (text : Text) (most : ℕ) (form : Form) → cost (named_text (names_of form) text) most form ≡ cost text most form

-- and so may a merge of the lists of all nodes
abbrev pub NamesDecideTheMergeCost : Type 0
NamesDecideTheMergeCost = (text : Text) (most : ℕ) (form : Form) → merge_cost (named_text (names_of form) text) most form ≡ merge_cost text most form

-- with prefix terms: what a file has of the words of the expansion decides the wide list over the whole file
abbrev pub NamesDecideTheWideList : Type 0
NamesDecideTheWideList = (bytes : List ℕ) (form : Form) →
    concordance (query_text bytes (expansion (file_text bytes) form)) (expansion (file_text bytes) form) ≡ wide (file_text bytes) form
