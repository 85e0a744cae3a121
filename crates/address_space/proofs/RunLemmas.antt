-- A run of files grows at its end.
use Rattle.std.proofs.Common.{List, [], ◌∷◌, ◌++◌, arith, IfSome}
use Rattle.address_space.specs.Runs.{FileEntry, IsPlaced, Precedes, IsFileRun, last_file}
use Rattle.gcl_model.proofs.Lists.{all_append}

Precedes-trans : (a b c : FileEntry) → Precedes a b → Precedes b c → Precedes a c
Precedes-trans a b c p q = record { ids = omega arith; addresses = omega arith }

-- what the last file of a list precedes, the file before the list precedes too
precedes_last : (file new : FileEntry) (files : List FileEntry) → IfSome (last_file (file ∷ files)) (λ last. Precedes last new) → IsFileRun (file ∷ files) → Precedes file new
precedes_last file new [] last run = last
precedes_last file new (next ∷ files) last run = Precedes-trans file next new run.1.0 (precedes_last next new files last run.2)

last_of_rest : (file new : FileEntry) (files : List FileEntry) → IfSome (last_file (file ∷ files)) (λ last. Precedes last new) → IfSome (last_file files) (λ last. Precedes last new)
last_of_rest file new [] last = tt
last_of_rest file new (next ∷ files) last = last

pub IsFileRun-push : (files : List FileEntry) (new : FileEntry) → IsFileRun files → IsPlaced new → IfSome (last_file files) (λ last. Precedes last new) → IsFileRun (files ++ new ∷ [])
IsFileRun-push [] new run placed last = (placed, tt, tt)
IsFileRun-push (file ∷ files) new run placed last =
    (run.0, all_append (Precedes file) files (new ∷ []) run.1 (precedes_last file new files last run, tt), IsFileRun-push files new run.2 placed (last_of_rest file new files last))
