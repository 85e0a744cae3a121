-- Where a cursor stands, and what it may still cost.
use Rattle.std.specs.Prelude.{◌≡◌, ℕ, zero, suc, ◌+◌, ◌*◌, ◌≤◌, ⊤, List}
use Rattle.gcl_model.specs.Cost.{cost}
use Rattle.gcl_model.specs.Forms.{Form}
use Rattle.gcl_model.specs.Texts.{Text}
use Rattle.gcl_readers.specs.declared.front.Place.{Place}
use Rattle.gcl_readers.specs.MergeCost.{cost_left}
use Rattle.gcl_readers.specs.Standing.{Stands, start_at}
use Rattle.gcl_cursor.specs.declared.cursor.Cursor.{Cursor}
use Rattle.gcl_cursor.specs.declared.cursor.Cursor.TheVariants.{Leaping, Reading, Free}

-- readers that stand before all members of a form over a text
pub record Waits (text : Text) (form : Form) (readers : List Place) : Type 0 where
  pub stand : Stands text form readers
  pub first : start_at readers ≡ 0

-- readers that have passed no member which starts at k or later
pub record StandsAt (text : Text) (form : Form) (k : ℕ) (readers : List Place) : Type 0 where
  pub stand : Stands text form readers
  pub behind : start_at readers ≤ k

-- leaping goes on while look-ups are left, and after that reading
abbrev pub after_leaps : ℕ → List Place → Cursor
after_leaps zero readers = Reading readers
after_leaps (suc left) readers = Leaping (suc left) readers

-- no member that starts at k or later was passed
abbrev pub IsAt : Text → Form → (k : ℕ) → Cursor → Type 0
IsAt text form k (Leaping leaps readers) = Waits text form readers
IsAt text form k (Reading readers) = StandsAt text form k readers
IsAt text form k Free = ⊤

-- the look-ups of a cursor have a limit
abbrev pub IsLimited : Cursor → Type 0
IsLimited (Leaping leaps readers) = ⊤
IsLimited (Reading readers) = ⊤
IsLimited Free = ⊥

-- how many look-ups it may still make in all, whatever it is asked, if one call of the leaves may make `most` of them: those left to
-- leaping, which the last may exceed by those of an element, and those left to a merge of the whole lists of all parts of the expression
abbrev pub left_of : Text → (most : ℕ) → Form → Cursor → ℕ
left_of text most form (Leaping leaps readers) = leaps + 3 * most + cost_left text most form readers
left_of text most form (Reading readers) = cost_left text most form readers
left_of text most form Free = 0

-- how many it may make for the given number of members: without a limit one access for each, and one more
abbrev pub allowed : Text → (most : ℕ) → Form → Cursor → (members : ℕ) → ℕ
allowed text most form (Leaping leaps readers) members = leaps + 3 * most + cost_left text most form readers
allowed text most form (Reading readers) members = cost_left text most form readers
allowed text most form Free members = (members + 1) * cost text most form
