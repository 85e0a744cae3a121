-- The words that begin with a prefix, in a table and in a text, for this crate alone.
use Rattle.std.specs.Prelude.{ℕ, List, map, filter, flat_map}
use Rattle.gcl_model.specs.Texts.{Word}
use Rattle.gcl_model.specs.Wide.{begins_with}
use Rattle.index_shard.specs.Tables.{TermEntry}

-- the entries whose terms begin with the prefix
abbrev pub run_entries : List ℕ → List TermEntry → List TermEntry
run_entries prefix entries = filter (λ (entry : TermEntry). begins_with prefix entry.term) entries

-- their addresses, one entry after the other: no address comes twice, and those of one entry rise
abbrev pub run_addresses : List ℕ → List TermEntry → List ℕ
run_addresses prefix entries = flat_map (λ (entry : TermEntry). entry.addresses) (run_entries prefix entries)

-- the addresses of the words that begin with the prefix, in the order of the list
abbrev pub prefix_places : List Word → List ℕ → List ℕ
prefix_places words prefix = map (λ w. w.address) (filter (λ w. begins_with prefix w.token) words)
