-- Tables, computed: `to be or not to be` starting at address 1.
use Rattle.std.proofs.Common.{◌≡◌, ◌+◌, ◌*◌, true, false, List, [], ◌∷◌, map, codes, Some, None, refl}
use Rattle.gcl_model.specs.Slots.{slot_range}
use Rattle.gcl_model.specs.Texts.{places}
use Rattle.index_shard.specs.Tables.{TermEntry, ShardContent, postings_of, addresses_at, place_of, term_at, words_of, least_term, ComesBefore}
use Rattle.index_shard.specs.Kept.{leading, part_of, list_in}
use Rattle.index_shard.specs.declared.entry.Kept.TheVariants.{Short, Long}
use Rattle.index_shard.proofs.TableLaws.{term_entry as entry}

abbrev hamlet : List TermEntry
hamlet = entry (codes "be") (2 ∷ 6 ∷ []) ∷ entry (codes "not") (4 ∷ []) ∷ entry (codes "or") (3 ∷ []) ∷ entry (codes "to") (1 ∷ 5 ∷ []) ∷ []

abbrev hamlet_shard : ShardContent
hamlet_shard = record { range = slot_range 1 6; table = hamlet }

postings_of-to : postings_of hamlet (codes "to") ≡ 1 ∷ 5 ∷ []
postings_of-to = refl

postings_of-missing : postings_of hamlet (codes "note") ≡ []
postings_of-missing = refl

term_at-held : term_at hamlet 3 ≡ Some (codes "or")
term_at-held = refl

term_at-free : term_at hamlet 7 ≡ None
term_at-free = refl

-- the words in the order of the text
words_of-hamlet : map (λ w. w.token) (words_of hamlet_shard) ≡ codes "to" ∷ codes "be" ∷ codes "or" ∷ codes "not" ∷ codes "to" ∷ codes "be" ∷ []
words_of-hamlet = refl

places-be : places (words_of hamlet_shard) (codes "be") ≡ 2 ∷ 6 ∷ []
places-be = refl

-- a term comes before those that it begins
before_longer : ComesBefore (codes "no") (codes "not")
before_longer = refl

before_tag : ComesBefore (codes "</file!>") (codes "<file!>")
before_tag = refl

-- the place of a term, and the postings there
place_of-or : place_of hamlet (codes "or") ≡ Some 2
place_of-or = refl

place_of-missing : place_of hamlet (codes "note") ≡ None
place_of-missing = refl

addresses_at-last : addresses_at hamlet 3 ≡ 1 ∷ 5 ∷ []
addresses_at-last = refl

-- the least term at or after a bound, above it, and after the last
least_term-from : least_term hamlet (codes "bee") false ≡ Some (codes "not")
least_term-from = refl

least_term-above : least_term hamlet (codes "not") true ≡ Some (codes "or")
least_term-above = refl

least_term-none : least_term hamlet (codes "to") true ≡ None
least_term-none = refl

-- two bytes as a number, with a 0 for one that is not there
leading-both : leading 2 0 (codes "be") ≡ 98 * 256 + 101
leading-both = refl

leading-one : leading 2 0 (codes "b") ≡ 98 * 256
leading-one = refl

part_of-middle : part_of (codes "benotor") 2 3 ≡ codes "not"
part_of-middle = refl

-- three addresses by two differences between others, and a list of its own
list_in-short : list_in (9 ∷ 2 ∷ 3 ∷ 7 ∷ []) [] (Short 3 8 1 2 3) ≡ 3 ∷ 5 ∷ 8 ∷ []
list_in-short = refl

list_in-long : list_in [] ((1 ∷ []) ∷ (4 ∷ 6 ∷ []) ∷ []) (Long 1) ≡ 4 ∷ 6 ∷ []
list_in-long = refl
