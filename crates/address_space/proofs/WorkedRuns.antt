-- Runs of files, worked out.
use Rattle.std.proofs.Common.{◌≡◌, ◌≤◌, [], ◌∷◌, refl, arith, codes, Some}
use Rattle.gcl_model.specs.Slots.{slot_range}
use Rattle.address_space.specs.Runs.{FileEntry, IsFileRun, range_of, last_file}

-- a file at the addresses 0 to 7, and after a hole one at 10 and 11
first_file : FileEntry
first_file = record { id = 0; base = 0; len = 8; name = codes "a" }

second_file : FileEntry
second_file = record { id = 2; base = 10; len = 2; name = codes "b" }

runs_in_order : IsFileRun (first_file ∷ second_file ∷ [])
unfolding first_file second_file
runs_in_order = (record { bounded = omega arith; in_range = omega arith }, (record { ids = omega arith; addresses = omega arith }, tt), (record { bounded = omega arith; in_range = omega arith }, tt, tt))

-- two files that share an address are no run, whatever their ids
no_common_address : IsFileRun (first_file ∷ record second_file { base = 7 } ∷ []) → ⊥
unfolding first_file second_file
no_common_address run = let addresses : 8 ≤ 7 = run.1.0.addresses in omega arith

range_of_three : range_of record { id = 0; base = 7; len = 3; name = codes "a" } ≡ slot_range 7 9
range_of_three = refl

last_of_two : last_file (first_file ∷ second_file ∷ []) ≡ Some second_file
last_of_two = refl
