-- Files slot by slot.
use Rattle.std.proofs.Common.{◌≡◌, ℕ, zero, suc, ◌+◌, ◌<◌, List, [], ◌∷◌, ◌++◌, length, drop, get_or, sym, ap, arith}
use Rattle.live_version.specs.Contents.{SlotContent, files_of}

-- the slot at a place, with what is after it
pub files_from : (slots : List SlotContent) (i : ℕ) (slot : SlotContent) → i < length slots → slot ≡ get_or slots i slot → files_of (drop i slots) ≡ slot.files ++ files_of (drop (i + 1) slots)
files_from [] i slot lt is = absurd (omega arith)
files_from (x ∷ xs) zero slot lt is = ap (λ (s : SlotContent). s.files ++ files_of xs) (sym is)
files_from (x ∷ xs) (suc i) slot lt is = let e : suc i + 1 ≡ suc (i + 1) = omega arith in rw e (files_from xs i slot (omega arith) is)
