-- The text of a line that is appended in parts.
use Rattle.std.proofs.Common.{◌≡◌, ℕ, List, [], ◌∷◌, ◌++◌, append_assoc}

-- three fields and the end of a line, one after the other
pub record_text : (space field_1 field_2 field_3 name last out out_1 out_2 out_3 out_4 : List ℕ) → out_1 ≡ out ++ field_1 ++ space → out_2 ≡ out_1 ++ field_2 ++ space →
    out_3 ≡ out_2 ++ field_3 ++ space → last ≡ name → out_4 ≡ out_3 ++ last ++ 10 ∷ [] →
    out_4 ≡ out ++ (field_1 ++ space ++ field_2 ++ space ++ field_3 ++ space ++ name) ++ 10 ∷ []
record_text space field_1 field_2 field_3 name last out out_1 out_2 out_3 out_4 is_1 is_2 is_3 same is_4 = rw (is_4, is_3, is_2, is_1, same) (simp append_assoc)

-- what begins a line, a field and the two numbers that end it
pub file_text : (head space field first last out out_1 out_2 out_3 : List ℕ) → out_1 ≡ out ++ head → out_2 ≡ out_1 ++ field ++ space →
    out_3 ≡ out_2 ++ (first ++ space ++ last) ++ 10 ∷ [] → out_3 ≡ out ++ (head ++ field ++ space ++ first ++ space ++ last) ++ 10 ∷ []
file_text head space field first last out out_1 out_2 out_3 is_1 is_2 is_3 = rw (is_3, is_2, is_1) (simp append_assoc)

-- a number between two texts, and the end of the line
pub fault_text : (head number between name last out out_1 out_2 out_3 out_4 : List ℕ) → out_1 ≡ out ++ head → out_2 ≡ out_1 ++ number →
    out_3 ≡ out_2 ++ between → last ≡ name → out_4 ≡ out_3 ++ last ++ 10 ∷ [] → out_4 ≡ out ++ (head ++ number ++ between ++ name) ++ 10 ∷ []
fault_text head number between name last out out_1 out_2 out_3 out_4 is_1 is_2 is_3 same is_4 = rw (is_4, is_3, is_2, is_1, same) (simp append_assoc)

-- a mark, a field and what is a line of its own elsewhere
pub change_text : (space field mark line first out out_1 out_2 out_3 : List ℕ) → first ≡ mark → out_1 ≡ out ++ first → out_2 ≡ out_1 ++ field ++ space →
    out_3 ≡ out_2 ++ line ++ 10 ∷ [] → out_3 ≡ out ++ (mark ++ field ++ space ++ line) ++ 10 ∷ []
change_text space field mark line first out out_1 out_2 out_3 same is_1 is_2 is_3 = rw (is_3, is_2, is_1, same) (simp append_assoc)

-- what begins a line and the number that ends it
pub number_text : (text number out out_1 out_2 : List ℕ) → out_1 ≡ out ++ text → out_2 ≡ out_1 ++ number ++ 10 ∷ [] → out_2 ≡ out ++ (text ++ number) ++ 10 ∷ []
number_text text number out out_1 out_2 is_1 is_2 = rw (is_2, is_1) (simp append_assoc)
