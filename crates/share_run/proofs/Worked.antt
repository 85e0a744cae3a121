-- Words and shares of files, computed on small examples.
use Rattle.std.proofs.Common.{◌≡◌, [], ◌∷◌, Some, None, codes, refl}
use Rattle.share_run.specs.Words.{options_of}
use Rattle.share_run.specs.Work.{files_for}

options-in_any_order : options_of (codes "--editors=3" ∷ codes "--made" ∷ codes "7" ∷ codes "--count" ∷ codes "9" ∷ []) ≡ Some record { start = 7; count = 9; editors = 3 }
options-in_any_order = refl

options-no_editor : options_of (codes "--editors=0" ∷ codes "--made" ∷ codes "7" ∷ codes "--count" ∷ codes "9" ∷ []) ≡ None
options-no_editor = refl

options-twice : options_of (codes "--made=7" ∷ codes "--count=9" ∷ codes "--count=9" ∷ []) ≡ None
options-twice = refl

-- of nine files and two editors, number 0 has five
files_for-five : files_for 2 0 9 ≡ 5
files_for-five = refl
