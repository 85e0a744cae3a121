-- A text that is written piece by piece.
use Rattle.std.proofs.Common.{◌+◌, ◌-◌, ℕ, List, Option, length, take, drop}
use Rattle.std.proofs.lemmas.List.{take_rest}
use Rattle.std.proofs.Math.Seq.{take-add}
use Rattle.std.specs.Io.KnownBytes.{Appends}
use Rattle.std.proofs.KnownBytes.{Appends-trans}

-- of a text whose front was written, a piece more
pub piece_written : (a b c : Option (List ℕ)) (text : List ℕ) (at n : ℕ) → Appends a b (take at text) → Appends b c (take n (take (length text - at) (drop at text))) → Appends a c (take (at + n) text)
piece_written a b c text at n front piece = rw (take-add at n text) (Appends-trans a b c _ _ front (rw take_rest at piece))
