-- Images, computed.
use Rattle.std.proofs.Common.{◌≡◌, ◌≤◌, List, [], ◌∷◌, ◌++◌, codes, true, length, refl, arith}
use Rattle.gcl_model.specs.Collections.{Collection, file_start, file_end, words_of}
use Rattle.gcl_model.specs.Names.{is_name}
use Rattle.gcl_model.specs.Texts.{places}
use Rattle.posting_code.specs.Packed.{packed_from}
use Rattle.index_shard.specs.Tables.{TermEntry, postings_of}
use Rattle.index_shard.proofs.TableLaws.{term_entry as entry}
use Rattle.image_file.specs.declared.format.Format.{Format}
use Rattle.image_file.specs.declared.format.Format.TheVariants.{One, Two}
use Rattle.image_file.specs.Fields.{image_bytes}
use Rattle.image_file.specs.Images.{AreTermsOf, CanBeSaid, Spells, end_of, fields_of}
use Rattle.image_file.proofs.TermsOfWords.{terms_are}

packed_from-three : packed_from 3 (5 ∷ 8 ∷ []) ≡ 2 ∷ 3 ∷ []
packed_from-three = refl

-- of a file "a" with "to be or not to be" and an empty file "b", the first deleted
abbrev only_b : Collection
only_b = record { first = 0; next = 10; next_id = 2; dels = 0; files = record { id = 1; name = 98 ∷ []; base = 8; tokens = [] } ∷ [] }

abbrev terms_of_b : List TermEntry
terms_of_b = entry file_end (9 ∷ []) ∷ entry file_start (8 ∷ []) ∷ []

one-only_b : image_bytes One (fields_of only_b terms_of_b) ≡
    codes "GCLIMG01" ++ 0 ∷ 0 ∷ 0 ∷ 0 ∷ 0 ∷ 0 ∷ 0 ∷ 0 ∷ 10 ∷ 0 ∷ 0 ∷ 0 ∷ 0 ∷ 0 ∷ 0 ∷ 0 ∷ 2 ∷ 0 ∷ 0 ∷ 0 ∷ 0 ∷ 0 ∷ 0 ∷ 0 ∷ 1 ∷ 0 ∷ 0 ∷ 0 ∷ 0 ∷ 0 ∷ 0 ∷ 0
    ∷ 1 ∷ 0 ∷ 0 ∷ 0 ∷ 0 ∷ 0 ∷ 0 ∷ 0 ∷ 8 ∷ 0 ∷ 0 ∷ 0 ∷ 0 ∷ 0 ∷ 0 ∷ 0 ∷ 2 ∷ 0 ∷ 0 ∷ 0 ∷ 0 ∷ 0 ∷ 0 ∷ 0 ∷ 1 ∷ 0 ∷ 0 ∷ 0 ∷ 98 ∷ 2 ∷ 0 ∷ 0 ∷ 0 ∷ 0 ∷ 0 ∷ 0 ∷ 0
    ∷ 8 ∷ 0 ∷ 0 ∷ 0 ∷ 60 ∷ 47 ∷ 102 ∷ 105 ∷ 108 ∷ 101 ∷ 33 ∷ 62 ∷ 1 ∷ 0 ∷ 0 ∷ 0 ∷ 0 ∷ 0 ∷ 0 ∷ 0 ∷ 9
    ∷ 7 ∷ 0 ∷ 0 ∷ 0 ∷ 60 ∷ 102 ∷ 105 ∷ 108 ∷ 101 ∷ 33 ∷ 62 ∷ 1 ∷ 0 ∷ 0 ∷ 0 ∷ 0 ∷ 0 ∷ 0 ∷ 0 ∷ 8 ∷ []
one-only_b = refl

length-one-only_b : length (image_bytes One (fields_of only_b terms_of_b)) ≡ 118
length-one-only_b = refl

two-only_b : image_bytes Two (fields_of only_b terms_of_b) ≡
    codes "GCLIMG02" ++ 0 ∷ 0 ∷ 0 ∷ 0 ∷ 0 ∷ 0 ∷ 0 ∷ 0 ∷ 10 ∷ 0 ∷ 0 ∷ 0 ∷ 0 ∷ 0 ∷ 0 ∷ 0 ∷ 2 ∷ 0 ∷ 0 ∷ 0 ∷ 0 ∷ 0 ∷ 0 ∷ 0 ∷ 1 ∷ 0 ∷ 0 ∷ 0 ∷ 0 ∷ 0 ∷ 0 ∷ 0
    ∷ 1 ∷ 8 ∷ 0 ∷ 1 ∷ 98 ∷ 2 ∷ 0 ∷ 0 ∷ 0 ∷ 0 ∷ 0 ∷ 0 ∷ 0
    ∷ 8 ∷ 60 ∷ 47 ∷ 102 ∷ 105 ∷ 108 ∷ 101 ∷ 33 ∷ 62 ∷ 0 ∷ 9 ∷ 7 ∷ 60 ∷ 102 ∷ 105 ∷ 108 ∷ 101 ∷ 33 ∷ 62 ∷ 0 ∷ 8 ∷ []
two-only_b = refl

length-two-only_b : length (image_bytes Two (fields_of only_b terms_of_b)) ≡ 74
length-two-only_b = refl

-- a file "a" alone
abbrev only_a : Collection
only_a = record {
  first = 0;
  next = 8;
  next_id = 1;
  dels = 0;
  files = record { id = 0; name = 97 ∷ []; base = 0; tokens = codes "to" ∷ codes "be" ∷ codes "or" ∷ codes "not" ∷ codes "to" ∷ codes "be" ∷ [] } ∷ [];
}

abbrev terms_of_a : List TermEntry
terms_of_a =
    entry file_end (7 ∷ []) ∷ entry file_start (0 ∷ []) ∷ entry (codes "be") (2 ∷ 6 ∷ []) ∷ entry (codes "not") (4 ∷ []) ∷ entry (codes "or") (3 ∷ []) ∷ entry (codes "to") (1 ∷ 5 ∷ []) ∷ []

length-one-only_a : length (image_bytes One (fields_of only_a terms_of_a)) ≡ 181
length-one-only_a = refl

length-two-only_a : length (image_bytes Two (fields_of only_a terms_of_a)) ≡ 97
length-two-only_a = refl

-- nothing was ever added
length-empty : length (image_bytes Two (fields_of record { first = 5; next = 5; next_id = 0; dels = 0; files = [] } [])) ≡ 48
length-empty = refl

places-be : places (words_of only_a) (codes "be") ≡ postings_of terms_of_a (codes "be")
places-be = refl

-- these are the terms of the files' words, each with the addresses that hold it
terms_of_b-are : AreTermsOf (words_of only_b) terms_of_b
terms_of_b-are = terms_are (words_of only_b)

terms_of_a-are : AreTermsOf (words_of only_a) terms_of_a
terms_of_a-are = terms_are (words_of only_a)

-- the image of b with its 74 bytes, and its old image with 118, are images of the collection, as b is a name
said-only_b : (format : Format) → is_name (98 ∷ []) ≡ true → CanBeSaid format only_b
said-only_b format named = record {
  sound = record { ordered = omega arith; in_range = omega arith; files = (omega arith, omega arith, (λ e. absurd (omega arith), omega arith), named, tt, (omega arith, omega arith, (λ e. refl, omega arith))) };
  fresh = refl;
  in_range = in_range format;
}
  where
    in_range : (format : Format) → 10 ≤ end_of format
    in_range One = omega arith
    in_range Two = omega arith

spells-two : is_name (98 ∷ []) ≡ true → Spells Two (image_bytes Two (fields_of only_b terms_of_b)) only_b
spells-two named = record { said = said-only_b Two named; spelled = (terms_of_b, record { terms = terms_of_b-are; short = (omega arith, (omega arith, tt)); bytes = refl }) }

spells-one : is_name (98 ∷ []) ≡ true → Spells One (image_bytes One (fields_of only_b terms_of_b)) only_b
spells-one named = record { said = said-only_b One named; spelled = (terms_of_b, record { terms = terms_of_b-are; short = (omega arith, (omega arith, tt)); bytes = refl }) }
