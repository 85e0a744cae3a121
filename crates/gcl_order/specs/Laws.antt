-- The accesses of "followed by", from those of its operands: `first` and `rest` are their lists, and so are `front` and `last`.
use Rattle.std.specs.Prelude.{◌≡◌, ℕ, List, [], ◌∷◌, ◌++◌}
use Rattle.gcl_model.specs.Extents.{Extent}
use Rattle.gcl_model.specs.Texts.{Text}
use Rattle.gcl_model.specs.Forms.{Forms, seq}
use Rattle.gcl_model.specs.Meaning.{concordance, operands}
use Rattle.gcl_model.specs.Access.{first_start, first_end, last_end, last_start}
use Rattle.gcl_order.specs.Walks.{forward_and_back, back_and_forward, from_last, from_first}

-- the first member that starts at or after k is found by a walk forward over the operands and one back without the last:
-- of "to" and "be" at 1 to 6 it is (1, 2) at 0
abbrev pub SeqGoesForward : Type 0
SeqGoesForward = (text : Text) (forms : Forms) (first last : List Extent) (rest front : List (List Extent)) →
    operands text forms ≡ first ∷ rest → operands text forms ≡ front ++ last ∷ [] → (k : ℕ) →
    first_start (concordance text (seq forms)) k ≡ forward_and_back first rest front k

-- the last member that ends up to k is found by a walk back over the operands and one forward without the first:
-- of "be" and "to" at 1 to 6 it is (2, 5) at 6
abbrev pub SeqGoesBackward : Type 0
SeqGoesBackward = (text : Text) (forms : Forms) (first last : List Extent) (rest front : List (List Extent)) →
    operands text forms ≡ first ∷ rest → operands text forms ≡ front ++ last ∷ [] → (k : ℕ) →
    last_end (concordance text (seq forms)) k ≡ back_and_forward last rest front k

-- the first member that ends at k or later is found from the last operand's: of "to" and "be" at 1 to 6 it is (5, 6) at 3
abbrev pub SeqGoesFromLast : Type 0
SeqGoesFromLast = (text : Text) (forms : Forms) (first last : List Extent) (rest front : List (List Extent)) →
    operands text forms ≡ first ∷ rest → operands text forms ≡ front ++ last ∷ [] → (k : ℕ) →
    first_end (concordance text (seq forms)) k ≡ from_last (concordance text (seq forms)) last rest front text.first k

-- the last member that starts at k or before is found from the first operand's: of "to" and "be" at 1 to 6 it is (1, 2) at 4
abbrev pub SeqGoesFromFirst : Type 0
SeqGoesFromFirst = (text : Text) (forms : Forms) (first last : List Extent) (rest front : List (List Extent)) →
    operands text forms ≡ first ∷ rest → operands text forms ≡ front ++ last ∷ [] → (k : ℕ) →
    last_start (concordance text (seq forms)) k ≡ from_first (concordance text (seq forms)) first rest front text.next k
