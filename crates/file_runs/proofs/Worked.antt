-- Runs, computed.
use Rattle.std.proofs.Common.{◌≡◌, ℕ, ◌*◌, [], ◌∷◌, refl}
use Rattle.address_space.specs.Runs.{FileEntry}
use Rattle.file_runs.specs.Records.{ends_from, files_in, last_id}

-- a file of two addresses, of this id
abbrev file : ℕ → FileEntry
file id = record { id = id; base = 2 * id; len = 2; name = [] }

in_two_runs : files_in ((file 0 ∷ file 2 ∷ []) ∷ (file 5 ∷ []) ∷ []) ≡ file 0 ∷ file 2 ∷ file 5 ∷ []
in_two_runs = refl

last-of_two : last_id (file 0 ∷ file 2 ∷ []) ≡ 2
last-of_two = refl

ends-of_two_runs : ends_from 0 ((file 0 ∷ file 2 ∷ []) ∷ (file 5 ∷ []) ∷ []) ≡ 2 ∷ 3 ∷ []
ends-of_two_runs = refl
