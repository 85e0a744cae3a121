-- Worked examples of wide lists, computed.
use Rattle.std.specs.Prelude.{◌≡◌, true, false, [], ◌∷◌, refl, codes}
use Rattle.gcl_model.specs.Extents.{extent}
use Rattle.gcl_model.specs.Forms.{Form, term, both, seq}
use Rattle.gcl_model.specs.Meaning.{concordance}
use Rattle.gcl_model.specs.Wide.{stands_for_word, wide}
use Rattle.gcl_model.proofs.WorkedMeaning.{hamlet, t, two}

abbrev t_star : Form
t_star = term (codes "t*")

abbrev b_star : Form
b_star = term (codes "b*")

pub a_word_for_a_prefix : stands_for_word (codes "to*") (codes "together") ≡ true
a_word_for_a_prefix = refl

pub a_prefix_is_a_word_itself : stands_for_word (codes "to*") (codes "to") ≡ true
a_prefix_is_a_word_itself = refl

pub a_word_is_shorter : stands_for_word (codes "together*") (codes "to") ≡ false
a_word_is_shorter = refl

pub a_term_stands_for_itself_alone : stands_for_word (codes "to") (codes "together") ≡ false
a_term_stands_for_itself_alone = refl

pub a_prefix : wide hamlet t_star ≡ extent 1 1 ∷ extent 5 5 ∷ []
a_prefix = refl

-- a text has no word with a `*`
pub not_by_itself : concordance hamlet t_star ≡ []
not_by_itself = refl

pub no_such_word : wide hamlet (term (codes "z*")) ≡ []
no_such_word = refl

pub both_of_prefixes : wide hamlet (both (two (term (codes "n*")) (term (codes "o*")))) ≡ extent 3 4 ∷ []
both_of_prefixes = refl

pub followed_by_prefixes : wide hamlet (seq (two b_star t_star)) ≡ extent 2 5 ∷ []
followed_by_prefixes = refl

pub without_a_prefix : wide hamlet t ≡ concordance hamlet t
without_a_prefix = refl
