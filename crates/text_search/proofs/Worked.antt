-- Worked examples of a file's text and of names, computed.
use Rattle.std.specs.Prelude.{◌≡◌, refl, [], ◌∷◌, codes, map}
use Rattle.gcl_model.specs.Extents.{extent}
use Rattle.gcl_model.specs.Forms.{Form, term, seq, more_forms, no_forms}
use Rattle.gcl_model.specs.Meaning.{concordance}
use Rattle.text_search.specs.FileTexts.{file_text}
use Rattle.text_search.specs.Names.{names_of, query_text}

pub words_of_a_file : map (λ w. w.token) (file_text (codes "To be")).words ≡ codes "<file!>" ∷ codes "to" ∷ codes "be" ∷ codes "</file!>" ∷ []
words_of_a_file = refl

pub a_file_begins_at_0 : (file_text (codes "To be")).first ≡ 0
a_file_begins_at_0 = refl

pub a_file_has_its_boundaries : (file_text []).next ≡ 2
a_file_has_its_boundaries = refl

abbrev to_be : Form
to_be = seq (more_forms (term (codes "to")) (more_forms (term (codes "be")) no_forms))

pub names_of_a_chain : names_of to_be ≡ codes "to" ∷ codes "be" ∷ []
names_of_a_chain = refl

pub named_words : map (λ w. w.address) (query_text (codes "to be or") to_be).words ≡ 1 ∷ 2 ∷ []
named_words = refl

pub the_list_of_named_words : concordance (query_text (codes "to be or") to_be) to_be ≡ extent 1 2 ∷ []
the_list_of_named_words = refl

pub the_list_of_a_file : concordance (file_text (codes "to be or")) to_be ≡ extent 1 2 ∷ []
the_list_of_a_file = refl
