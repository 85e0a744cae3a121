-- A file as contracts see it, by its parts.
use Rattle.std.specs.Prelude.{ℕ, List}
use Rattle.address_space.specs.Runs.{FileEntry}

-- the file of this id, first address, number of addresses and name
abbrev pub entry : ℕ → ℕ → ℕ → List ℕ → FileEntry
entry id base len name = record { id = id; base = base; len = len; name = name }
