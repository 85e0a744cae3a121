-- What is put after what was put before: what is held back, and what the sink got.
use Rattle.std.proofs.Common.{◌≡◌, ℕ, ◌+◌, ◌≤◌, zero, suc, List, [], ◌∷◌, ◌++◌, length, take, refl, sym, ap, ◌∙◌, subst, arith, append_assoc, append-nil, length-append, Option}
use Rattle.std.specs.Io.KnownBytes.{Appends}
use Rattle.std.proofs.KnownBytes.{Appends-nil, Appends-trans}
use Rattle.answer_text.specs.Puts.{GetsPart, Puts, PutsFirst}

-- the front of a piece
pub piece_front : {T : Type 0} (n m : ℕ) (xs : List T) → n ≤ m → take n (take m xs) ≡ take n xs
piece_front zero m xs le = refl
piece_front (suc n) zero xs le = absurd (omega (arith, le))
piece_front (suc n) (suc m) [] le = refl
piece_front (suc n) (suc m) (x ∷ xs) le = ap (λ l. x ∷ l) (piece_front n m xs (omega (arith, le)))

-- nothing was written
pub part_none : (w : Option (List ℕ)) (text : List ℕ) → GetsPart w w text
part_none w text = record { part = []; rest = text; whole = refl; written = Appends-nil w }

-- more is held back
pub held_more : (w : Option (List ℕ)) (h h' more : List ℕ) → h' ≡ h ++ more → Puts w w h h' more
held_more w h h' more is = record { part = []; whole = sym is; written = Appends-nil w }

-- what was put has its beginning written
pub part_of_put : (a b : Option (List ℕ)) (h h' m : List ℕ) → Puts a b h h' m → GetsPart a b (h ++ m)
part_of_put a b h h' m put = record { part = put.part; rest = h'; whole = put.whole; written = put.written }

-- two texts, of which the first one was put
both : (part h h' m m' : List ℕ) → h ++ m ≡ part ++ h' → h ++ (m ++ m') ≡ part ++ (h' ++ m')
both part h h' m m' is = sym (append_assoc h m m') ∙ ap (λ l. l ++ m') is ∙ append_assoc part h' m'

-- one text after another
pub puts_on : (a b c : Option (List ℕ)) (h h' h'' m m' : List ℕ) → Puts a b h h' m → Puts b c h' h'' m' → Puts a c h h'' (m ++ m')
puts_on a b c h h' h'' m m' p q = record {
  part = p.part ++ q.part;
  whole = both p.part h h' m m' p.whole ∙ ap (λ l. p.part ++ l) q.whole ∙ sym (append_assoc p.part q.part h'');
  written = Appends-trans a b c p.part q.part p.written q.written;
}

-- one text after another, of which the sink got a part
pub puts_part : (a b c : Option (List ℕ)) (h h' m m' : List ℕ) → Puts a b h h' m → GetsPart b c (h' ++ m') → GetsPart a c (h ++ (m ++ m'))
puts_part a b c h h' m m' p q = record {
  part = p.part ++ q.part;
  rest = q.rest;
  whole = both p.part h h' m m' p.whole ∙ ap (λ l. p.part ++ l) q.whole ∙ sym (append_assoc p.part q.part q.rest);
  written = Appends-trans a b c p.part q.part p.written q.written;
}

-- a part of a text is one of more
pub part_on : (a c : Option (List ℕ)) (h m m' : List ℕ) → GetsPart a c (h ++ m) → GetsPart a c (h ++ (m ++ m'))
part_on a c h m m' p = record { part = p.part; rest = p.rest ++ m'; whole = both p.part h p.rest m m' p.whole; written = p.written }

-- what was put and then handed over is written
pub all_written : (a b c : Option (List ℕ)) (h h' text : List ℕ) → h ≡ [] → Puts a b h h' text → Appends b c h' → Appends a c text
all_written a b c h h' text none put rest =
    subst (Appends a c) (sym put.whole ∙ ap (λ l. l ++ text) none) (Appends-trans a b c put.part h' put.written rest)

-- a part of it is
pub part_written : (a b c : Option (List ℕ)) (h h' text : List ℕ) → h ≡ [] → Puts a b h h' text → GetsPart b c h' → GetsPart a c text
part_written a b c h h' text none put rest = record {
  part = put.part ++ rest.part;
  rest = rest.rest;
  whole = sym (ap (λ l. l ++ text) none) ∙ put.whole ∙ ap (λ l. put.part ++ l) rest.whole ∙ sym (append_assoc put.part rest.part rest.rest);
  written = Appends-trans a b c put.part rest.part put.written rest.written;
}

-- what was held back, and a text after it, are written once the rest is
pub all_behind : (a b c : Option (List ℕ)) (h h' text : List ℕ) → Puts a b h h' text → Appends b c h' → Appends a c (h ++ text)
all_behind a b c h h' text put rest = subst (Appends a c) (sym put.whole) (Appends-trans a b c put.part h' put.written rest)

-- a part of them is
pub part_behind : (a b c : Option (List ℕ)) (h h' text : List ℕ) → Puts a b h h' text → GetsPart b c h' → GetsPart a c (h ++ text)
part_behind a b c h h' text put rest = record {
  part = put.part ++ rest.part;
  rest = rest.rest;
  whole = put.whole ∙ ap (λ l. put.part ++ l) rest.whole ∙ sym (append_assoc put.part rest.part rest.rest);
  written = Appends-trans a b c put.part rest.part put.written rest.written;
}

-- a text that is put part by part
module _ {A : Type 0} (text : List A → List ℕ) (on : (xs ys : List A) → text (xs ++ ys) ≡ text xs ++ text ys) where
  -- no part was put
  pub none_first : (w : Option (List ℕ)) (h : List ℕ) (list : List A) → text [] ≡ [] → PutsFirst text w w h h list list 0
  none_first w h list none = record { so_far = []; whole = refl; count_is = refl; puts = held_more w h h (text []) (sym (append-nil h) ∙ ap (λ l. h ++ l) (sym none)) }

  -- some parts more were put
  pub more_first : (a b c : Option (List ℕ)) (h h' h'' : List ℕ) (list left page left' : List A) (count count' : ℕ) → left ≡ page ++ left' → count' ≡ count + length page → PutsFirst text a b h h' list left count →
      Puts b c h' h'' (text page) → PutsFirst text a c h h'' list left' count'
  more_first a b c h h' h'' list left page left' count count' is number put next = record {
    so_far = put.so_far ++ page;
    whole = put.whole ∙ ap (λ l. put.so_far ++ l) is ∙ sym (append_assoc put.so_far page left');
    count_is = let long = length-append put.so_far page in let before = put.count_is in omega (arith, number, long, before);
    puts = subst (Puts a c h h'') (sym (on put.so_far page)) (puts_on a b c h h' h'' (text put.so_far) (text page) put.puts next);
  }

  -- the sink got a part of some parts more
  pub part_first : (a b c : Option (List ℕ)) (h h' : List ℕ) (list left page : List A) (count : ℕ) → (put : PutsFirst text a b h h' list left count) → GetsPart b c (h' ++ text page) → GetsPart a c (h ++ text (put.so_far ++ page))
  part_first a b c h h' list left page count put part =
      subst (λ l. GetsPart a c (h ++ l)) (sym (on put.so_far page)) (puts_part a b c h h' (text put.so_far) (text page) put.puts part)

  -- and so a part of all
  pub part_all : (a b c : Option (List ℕ)) (h h' : List ℕ) (list left page left' : List A) (count : ℕ) → left ≡ page ++ left' → PutsFirst text a b h h' list left count →
      GetsPart b c (h' ++ text page) → GetsPart a c (h ++ text list)
  part_all a b c h h' list left page left' count is put part =
      let whole : list ≡ (put.so_far ++ page) ++ left' = put.whole ∙ ap (λ l. put.so_far ++ l) is ∙ sym (append_assoc put.so_far page left') in
      subst (λ l. GetsPart a c (h ++ l)) (sym (ap text whole ∙ on (put.so_far ++ page) left'))
      (part_on a c h (text (put.so_far ++ page)) (text left') (part_first a b c h h' list left page count put part))

  -- what was put so far is a part of all
  pub part_so_far : (a b : Option (List ℕ)) (h h' : List ℕ) (list left : List A) (count : ℕ) → PutsFirst text a b h h' list left count → GetsPart a b (h ++ text list)
  part_so_far a b h h' list left count put =
      subst (λ l. GetsPart a b (h ++ l)) (sym (ap text put.whole ∙ on put.so_far left)) (part_on a b h (text put.so_far) (text left) (part_of_put a b h h' (text put.so_far) put.puts))

  -- if no part is left, all was put
  pub all_put : (a b : Option (List ℕ)) (h h' : List ℕ) (list left : List A) (count : ℕ) → left ≡ [] → PutsFirst text a b h h' list left count → Puts a b h h' (text list) × (count ≡ length list)
  all_put a b h h' list left count none put =
      let whole : list ≡ put.so_far = put.whole ∙ ap (λ l. put.so_far ++ l) none ∙ append-nil put.so_far in
      (subst (λ l. Puts a b h h' (text l)) (sym whole) put.puts, put.count_is ∙ ap length (sym whole))
