-- How many look-ups the words of a prefix may take.
use Rattle.std.specs.Prelude.{ℕ, ◌+◌, ◌*◌, List, length, filter}
use Rattle.gcl_model.specs.Limits.{most_slots}
use Rattle.gcl_model.specs.Wide.{begins_with}
use Rattle.live_version.specs.Contents.{SlotContent, VersionContent}
use Rattle.live_version.specs.Terms.{terms_of}
use Rattle.wide_terms.specs.Vocabulary.{in_byte_order}

-- the different terms of the slots' indexes that begin with the prefix, including those without a live posting
abbrev pub terms_with_prefix : List SlotContent → List ℕ → List (List ℕ)
terms_with_prefix slots prefix = filter (begins_with prefix) (in_byte_order (terms_of slots))

-- for each of them as many look-ups as an access to a word of the version may make
abbrev pub prefix_cost : VersionContent → List ℕ → ℕ
prefix_cost v prefix = length (terms_with_prefix v.slots prefix) * (most_slots + v.dels)
