-- Worked examples of a text in one block of bytes, computed.
use Rattle.std.proofs.Common.{◌≡◌, refl, [], ◌∷◌, codes, Some, None, List}
use Rattle.gcl_model.specs.Texts.{Word}
use Rattle.plain_text.specs.declared.entry.Entry.{Entry}
use Rattle.plain_text.specs.Entries.{words_in, start_at}
use Rattle.plain_text.specs.Holders.{first_holder, last_holder}
use Rattle.plain_text.specs.Puts.{word, with_word, text_from}

-- `to`, `be` and `to` at 3, 4 and 7
abbrev three : List Entry
three = record { address = 3; end = 2 } ∷ record { address = 4; end = 4 } ∷ record { address = 7; end = 6 } ∷ []

abbrev words : List Word
words = word 3 (codes "to") ∷ word 4 (codes "be") ∷ word 7 (codes "to") ∷ []

pub the_words_of_a_block : words_in (codes "tobeto") 0 three ≡ words
the_words_of_a_block = refl

pub the_second_begins_where_the_first_ends : start_at 0 three 1 ≡ 2
the_second_begins_where_the_first_ends = refl

pub the_first_to : first_holder words (codes "to") ≡ Some 3
the_first_to = refl

pub the_last_to : last_holder words (codes "to") ≡ Some 7
the_last_to = refl

pub no_or : first_holder words (codes "or") ≡ None
no_or = refl

pub consecutive_addresses : text_from 5 (codes "to" ∷ codes "be" ∷ []) ≡ record { first = 5; next = 7; words = word 5 (codes "to") ∷ word 6 (codes "be") ∷ [] }
consecutive_addresses = refl

pub one_word_more : with_word record { first = 5; next = 9; words = word 5 (codes "to") ∷ [] } 7 (codes "be") ≡ record { first = 5; next = 9; words = word 5 (codes "to") ∷ word 7 (codes "be") ∷ [] }
one_word_more = refl
