-- Lists that are put one after another, one list more.
use Rattle.std.proofs.Common.{◌≡◌, ℕ, ◌+◌, ◌<◌, ◌^◌, List, [], ◌∷◌, ◌++◌, length, take, drop, get_or, Option, Some, IfSome, Result, Ok, Err, IfOk, OnOk, refl, sym, ap, ◌∙◌, subst, arith}
use Rattle.std.specs.List.{concat}
use Rattle.std.specs.Result.{IsErrAnd}
use Rattle.std.proofs.Math.Seq.{take-append_seam}
use Rattle.std.proofs.lemmas.List.{append-nil, append_assoc, take-append-drop, take_more}
use Rattle.std.proofs.lemmas.List.Folds.{concat-append}
use Rattle.posting_code.specs.Postings.{ArePostings}
use Rattle.posting_code.specs.Packed.{packed_of, last_of}
use Rattle.posting_code.specs.Joined.{last_in, step_from}
use Rattle.posting_code.proofs.Rising.{rise_front}
use Rattle.posting_code.proofs.Joining.{packed_joined, rise_step, last_of-append}

-- one list more
pub concat_more : (lists : List (List ℕ)) (i : ℕ) (list : List ℕ) → i < length lists → list ≡ get_or lists i list → concat (take (i + 1) lists) ≡ concat (take i lists) ++ list
concat_more lists i list lt at =
    ap concat (take_more lists i list lt)
    ∙ concat-append (take i lists) (get_or lists i list ∷ [])
    ∙ ap (λ l. concat (take i lists) ++ l) (append-nil (get_or lists i list))
    ∙ ap (λ l. concat (take i lists) ++ l) (sym at)

-- what comes with one list more still rises
pub front_rises : (lists : List (List ℕ)) (i : ℕ) (list : List ℕ) → i < length lists → list ≡ get_or lists i list → ArePostings (concat lists) → ArePostings (concat (take i lists) ++ list)
front_rises lists i list lt at rising =
    let whole : concat lists ≡ concat (take (i + 1) lists) ++ concat (drop (i + 1) lists) = ap concat (sym (take-append-drop (i + 1) lists)) ∙ concat-append (take (i + 1) lists) (drop (i + 1) lists) in
    subst ArePostings (concat_more lists i list lt at) (rise_front 0 (2 ^ 56) (concat (take (i + 1) lists)) (concat (drop (i + 1) lists)) (subst ArePostings whole rising))

-- a list alone
pub concat_one : (list : List ℕ) → concat (list ∷ []) ≡ list
concat_one list = append-nil list

-- the last of both is that of the later one
pub last_more : (front list : List ℕ) → 0 < length list → Some (last_of list) ≡ last_in (front ++ list)
last_more [] [] some = absurd (omega (arith, some))
last_more [] (x ∷ xs) some = refl
last_more (f ∷ fs) list some = ap Some (sym (last_of-append (f ∷ fs) list some))

-- the bytes of both, with those between them
pub packed_more : (front list : List ℕ) → 0 < length list → packed_of (front ++ list) ≡ (packed_of front ++ step_from (last_in front) (get_or list 0 0)) ++ packed_of list
packed_more [] list some = refl
packed_more (f ∷ fs) list some = packed_joined (f ∷ fs) list (omega arith) some

-- the later one begins above
pub first_above : (front list : List ℕ) (last : Option ℕ) → last ≡ last_in front → ArePostings (front ++ list) → 0 < length list → IfSome last (λ l. l < get_or list 0 0)
first_above [] list last is rising some = subst (λ o. IfSome o (λ l. l < get_or list 0 0)) (sym is) tt
first_above (f ∷ fs) list last is rising some = subst (λ o. IfSome o (λ l. l < get_or list 0 0)) (sym is) (rise_step 0 (2 ^ 56) (f ∷ fs) list rising (omega arith) some).0

pub first_small : (front list : List ℕ) → ArePostings (front ++ list) → 0 < length list → get_or list 0 0 < 2 ^ 56
first_small [] [] rising some = absurd (omega (arith, some))
first_small [] (x ∷ xs) rising some = rising.1
first_small (f ∷ fs) list rising some = (rise_step 0 (2 ^ 56) (f ∷ fs) list rising (omega arith) some).1

-- what was put after a base
pub put_more : (front list base old mid new bytes : List ℕ) (last : Option ℕ) (first : ℕ) → 0 < length list → last ≡ last_in front → first ≡ get_or list 0 0 → old ≡ base ++ packed_of front →
    mid ≡ old ++ step_from last first → bytes ≡ packed_of list → new ≡ mid ++ bytes → new ≡ base ++ packed_of (front ++ list)
put_more front list base old mid new bytes last first some last_is first_is old_is mid_is bytes_is new_is =
    let between = step_from (last_in front) (get_or list 0 0) in
    new_is
    ∙ ap (λ b. mid ++ b) bytes_is
    ∙ ap (λ m. m ++ packed_of list) (mid_is ∙ ap (λ o. old ++ step_from o first) last_is ∙ ap (λ f. old ++ step_from (last_in front) f) first_is ∙ ap (λ o. o ++ between) old_is)
    ∙ ap (λ m. m ++ packed_of list) (append_assoc base (packed_of front) between)
    ∙ append_assoc base (packed_of front ++ between) (packed_of list)
    ∙ ap (λ b. base ++ b) (sym (packed_more front list some))

-- what is kept of bytes is kept of those at their front
pub still_before : (old more mid new : List ℕ) → mid ≡ old ++ more → take (length mid) new ≡ mid → take (length old) new ≡ old
still_before old more mid new is kept =
    let rest = drop (length mid) new in
    let whole : new ≡ old ++ (more ++ rest) = sym (take-append-drop (length mid) new) ∙ ap (λ m. m ++ rest) (kept ∙ is) ∙ append_assoc old more rest in
    ap (take (length old)) whole ∙ take-append_seam old (more ++ rest)

-- what is asked of an Ok, at an Err
pub no_ok : {T E : Type 0} (P : Type 0) (result : Result T E) (Q : E → Type 0) → IsErrAnd result Q → OnOk result P
no_ok P (Ok value) Q is = absurd is
no_ok P (Err fault) Q is = tt

pub no_value : {T E : Type 0} (P : T → Type 0) (result : Result T E) (Q : E → Type 0) → IsErrAnd result Q → IfOk result P
no_value P (Ok value) Q is = absurd is
no_value P (Err fault) Q is = tt

-- an empty list more
pub nothing_more : (front list : List ℕ) → length list ≡ 0 → front ≡ front ++ list
nothing_more front [] none = sym (append-nil front)
nothing_more front (x ∷ xs) none = absurd (omega (arith, none))

-- what was first still is, with two pieces more behind it
pub begins_with : (old step mid bytes new : List ℕ) → mid ≡ old ++ step → new ≡ mid ++ bytes → take (length old) new ≡ old
begins_with old step mid bytes new mid_is new_is =
    ap (take (length old)) (new_is ∙ ap (λ bs. bs ++ bytes) mid_is ∙ append_assoc old step bytes) ∙ take-append_seam old (step ++ bytes)
