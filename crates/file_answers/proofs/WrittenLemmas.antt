-- Texts that are written a piece at a time.
use Rattle.std.proofs.Common.{◌≡◌, ℕ, ◌≤◌, zero, suc, List, [], ◌∷◌, ◌++◌, take, refl, sym, ap, ◌∙◌, subst, arith, append_assoc, append-nil, Option}
use Rattle.std.specs.Io.KnownBytes.{Appends}
use Rattle.std.proofs.KnownBytes.{Appends-nil, Appends-trans}
use Rattle.file_answers.specs.Written.{GetsPart, Moves}

-- the front of a piece
pub piece_front : {T : Type 0} (n m : ℕ) (xs : List T) → n ≤ m → take n (take m xs) ≡ take n xs
piece_front zero m xs le = refl
piece_front (suc n) zero xs le = absurd (omega (arith, le))
piece_front (suc n) (suc m) [] le = refl
piece_front (suc n) (suc m) (x ∷ xs) le = ap (λ l. x ∷ l) (piece_front n m xs (omega (arith, le)))

-- nothing was written
pub moves-nothing : (w : Option (List ℕ)) (all : List ℕ) → Moves w w all all
moves-nothing w all = record { part = []; whole = refl; written = Appends-nil w }

-- what was to be written is this
pub moves-as : (a b : Option (List ℕ)) (x x' y y' : List ℕ) → x ≡ x' → y ≡ y' → Moves a b x y → Moves a b x' y'
moves-as a b x x' y y' is is' m = record { part = m.part; whole = sym is ∙ m.whole ∙ ap (λ l. m.part ++ l) is'; written = m.written }

-- a text was written
pub moves-written : (a b : Option (List ℕ)) (text more : List ℕ) → Appends a b text → Moves a b (text ++ more) more
moves-written a b text more w = record { part = text; whole = refl; written = w }

-- one after another
pub moves-on : (a b c : Option (List ℕ)) (x y z : List ℕ) → Moves a b x y → Moves b c y z → Moves a c x z
moves-on a b c x y z m n = record {
  part = m.part ++ n.part;
  whole = m.whole ∙ ap (λ l. m.part ++ l) n.whole ∙ sym (append_assoc m.part n.part z);
  written = Appends-trans a b c m.part n.part m.written n.written;
}

pub part-of : (a b : Option (List ℕ)) (x y : List ℕ) → Moves a b x y → GetsPart a b x
part-of a b x y m = record { left = y; moves = m }

pub part-on : (a b c : Option (List ℕ)) (x y : List ℕ) → Moves a b x y → GetsPart b c y → GetsPart a c x
part-on a b c x y m p = part-of a c x p.left (moves-on a b c x y p.left m p.moves)

pub part-as : (a b : Option (List ℕ)) (x x' : List ℕ) → x ≡ x' → GetsPart a b x → GetsPart a b x'
part-as a b x x' is p = part-of a b x' p.left (moves-as a b x x' p.left p.left is refl p.moves)

-- of a text the sink got the beginning, and nothing of what follows
pub part-more : (a b : Option (List ℕ)) (x more : List ℕ) → GetsPart a b x → GetsPart a b (x ++ more)
part-more a b x more p = record {
  left = p.left ++ more;
  moves = record { part = p.moves.part; whole = ap (λ l. l ++ more) p.moves.whole ∙ append_assoc p.moves.part p.left more; written = p.moves.written };
}

-- all was written
pub moves-all : (a b : Option (List ℕ)) (x y : List ℕ) → Moves a b x y → y ≡ [] → Appends a b x
moves-all a b x y m none = subst (Appends a b) (sym (m.whole ∙ ap (λ l. m.part ++ l) none ∙ append-nil m.part)) m.written
