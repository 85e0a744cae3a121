-- The numbers of several editors together.
use Rattle.std.proofs.Common.{◌≡◌, ℕ, zero, suc, ◌+◌, ◌*◌, ◌%◌, ◌<◌, ◌≤◌, ◌==◌, Bool, true, false, List, [], ◌∷◌, ◌++◌, length, refl, ap, arith, eqb-true, length-append, ◌⊎◌, inl, inr}
use Rattle.std.proofs.lemmas.Bool.{cases_lt, eq-eqb, ne_eqb}
use Rattle.std.specs.List.{sum_by}
use Rattle.std.proofs.lemmas.List.Sums.{sum_by-append}
use Rattle.shared_edit.specs.Editors.{EditorContent, editor_content, new_editors}
use Rattle.share_run.specs.Work.{AreSums, files_for, HaveEdited, one_where}

-- the work of some editors, and of others after them
pub edited_together : (editors files : ℕ) (xs ys us vs : List EditorContent) → HaveEdited editors files xs ys → HaveEdited editors files us vs → HaveEdited editors files (xs ++ us) (ys ++ vs)
edited_together editors files [] [] us vs h k = k
edited_together editors files [] (y ∷ ys) us vs h k = absurd h
edited_together editors files (x ∷ xs) [] us vs h k = absurd h
edited_together editors files (x ∷ xs) (y ∷ ys) us vs h k = (h.0, edited_together editors files xs ys us vs h.1 k)

more : (f : EditorContent → ℕ) (x : EditorContent) (xs : List EditorContent) → sum_by f (x ∷ xs) ≡ f x + sum_by f xs
more f x xs = omega (arith, sum_by-append f (x ∷ []) xs)

abbrev own : ℕ → ℕ → EditorContent → ℕ
own editors files e = files_for editors e.number files

-- the numbers of all of them together, where dels deletions were called
record Together (editors files : ℕ) (before after : List EditorContent) : Type 0 where
  dels : ℕ
  answers : sum_by (λ e. e.added) after + sum_by (λ e. e.gone) after + sum_by (λ e. e.refused) after
      ≡ sum_by (λ e. e.added) before + sum_by (λ e. e.gone) before + sum_by (λ e. e.refused) before + sum_by (own editors files) before + dels
  within : sum_by (λ e. e.added) after ≤ sum_by (λ e. e.added) before + sum_by (own editors files) before
  least : sum_by (λ e. e.added) before + 3 * dels ≤ sum_by (λ e. e.added) after
  most : sum_by (λ e. e.added) after ≤ sum_by (λ e. e.added) before + 3 * dels + 2 * length before
  gone : sum_by (λ e. e.gone) after ≤ sum_by (λ e. e.gone) before + dels

together : (editors files : ℕ) (before after : List EditorContent) → HaveEdited editors files before after → Together editors files before after
together editors files [] [] h = record { dels = 0; answers = refl; within = omega arith; least = omega arith; most = omega arith; gone = omega arith }
together editors files [] (y ∷ ys) h = absurd h
together editors files (x ∷ xs) [] h = absurd h
together editors files (x ∷ xs) (y ∷ ys) h =
    let one = h.0 in
    let rest = together editors files xs ys h.1 in
    let files_own : sum_by (own editors files) (x ∷ xs) ≡ files_for editors x.number files + sum_by (own editors files) xs = more (own editors files) x xs in
    let added : sum_by (λ (e : EditorContent). e.added) (y ∷ ys) ≡ y.added + sum_by (λ (e : EditorContent). e.added) ys = more (λ (e : EditorContent). e.added) y ys in
    let added' : sum_by (λ (e : EditorContent). e.added) (x ∷ xs) ≡ x.added + sum_by (λ (e : EditorContent). e.added) xs = more (λ (e : EditorContent). e.added) x xs in
    let gone : sum_by (λ (e : EditorContent). e.gone) (y ∷ ys) ≡ y.gone + sum_by (λ (e : EditorContent). e.gone) ys = more (λ (e : EditorContent). e.gone) y ys in
    let gone' : sum_by (λ (e : EditorContent). e.gone) (x ∷ xs) ≡ x.gone + sum_by (λ (e : EditorContent). e.gone) xs = more (λ (e : EditorContent). e.gone) x xs in
    let refused : sum_by (λ (e : EditorContent). e.refused) (y ∷ ys) ≡ y.refused + sum_by (λ (e : EditorContent). e.refused) ys = more (λ (e : EditorContent). e.refused) y ys in
    let refused' : sum_by (λ (e : EditorContent). e.refused) (x ∷ xs) ≡ x.refused + sum_by (λ (e : EditorContent). e.refused) xs = more (λ (e : EditorContent). e.refused) x xs in
    record {
      dels = one.dels + rest.dels;
      answers = omega (arith, one.answers, rest.answers, added, added', gone, gone', refused, refused', files_own);
      within = omega (arith, one.within, rest.within, added, added', files_own);
      least = omega (arith, one.least, rest.least, added, added');
      most = omega (arith, one.most, rest.most, added, added');
      gone = omega (arith, one.gone, rest.gone, gone, gone');
    }

-- ---- each file is one editor's

-- among the editors numbered below n, one has this number, if it is below n
abbrev one_of : ℕ → ℕ → ℕ
one_of zero k = 0
one_of (suc n) k = one_of n k + one_where (k == n)

none_of : (n k : ℕ) → n ≤ k → one_of n k ≡ 0
none_of zero k le = refl
none_of (suc n) k le = by_case (k == n) refl (none_of n k (omega (arith, le)))
  where
    by_case : (b : Bool) → (k == n) ≡ b → one_of n k ≡ 0 → one_of n k + one_where b ≡ 0
    by_case true e h = let same : k ≡ n = eqb-true k n e in absurd (omega (arith, le, same))
    by_case false e h = omega (arith, h)

exactly_one : (n k : ℕ) → k < n → one_of n k ≡ 1
exactly_one zero k lt = absurd (omega (arith, lt))
exactly_one (suc n) k lt = by_case (cases_lt k n) (exactly_one n k)
  where
    by_case : (k < n) ⊎ (n ≤ k) → (k < n → one_of n k ≡ 1) → one_of n k + one_where (k == n) ≡ 1
    by_case (inl less) h = let e : (k == n) ≡ false = ne_eqb k n (λ same. omega (arith, less, same)) in rw e (omega (arith, h less))
    by_case (inr from) h =
        let e : (k == n) ≡ true = eq-eqb k n (omega (arith, lt, from)) in
        let none = none_of n k from in
        rw e (omega (arith, none))

new_none : (n : ℕ) (f : EditorContent → ℕ) → ((k : ℕ) → f (editor_content k 0 0 0) ≡ 0) → sum_by f (new_editors n) ≡ 0
new_none zero f h = refl
new_none (suc n) f h = omega (arith, sum_by-append f (new_editors n) (editor_content n 0 0 0 ∷ []), new_none n f h, h n)

new_one : (n editors i : ℕ) → sum_by (λ e. one_where (i % editors == e.number)) (new_editors n) ≡ one_of n (i % editors)
new_one zero editors i = refl
new_one (suc n) editors i =
    omega (arith, sum_by-append (λ (e : EditorContent). one_where (i % editors == e.number)) (new_editors n) (editor_content n 0 0 0 ∷ []), new_one n editors i)

sum_of_both : (f g : EditorContent → ℕ) (es : List EditorContent) → sum_by (λ e. f e + g e) es ≡ sum_by f es + sum_by g es
sum_of_both f g [] = refl
sum_of_both f g (x ∷ xs) = omega (arith, more (λ e. f e + g e) x xs, more f x xs, more g x xs, sum_of_both f g xs)

-- the files of all editors are all files
all_files : (editors : ℕ) → 0 < editors → (files : ℕ) → sum_by (own editors files) (new_editors editors) ≡ files
all_files editors some zero = new_none editors (own editors 0) (λ k. refl)
all_files editors some (suc i) =
    let one : one_of editors (i % editors) ≡ 1 = exactly_one editors (i % editors) (omega (arith, some)) in
    omega (arith, sum_of_both (own editors i) (λ (e : EditorContent). one_where (i % editors == e.number)) (new_editors editors), all_files editors some i, new_one editors editors i, one)

pub new_length : (n : ℕ) → length (new_editors n) ≡ n
new_length zero = refl
new_length (suc n) = omega (arith, length-append (new_editors n) (editor_content n 0 0 0 ∷ []), new_length n)

-- the sums of the editors' numbers, once all of them have edited
pub edited-sums : (editors files : ℕ) (after : List EditorContent) → 0 < editors → HaveEdited editors files (new_editors editors) after
    → AreSums files editors (sum_by (λ e. e.added) after) (sum_by (λ e. e.gone) after) (sum_by (λ e. e.refused) after)
edited-sums editors files after some h =
    let t = together editors files (new_editors editors) after h in
    let all = all_files editors some files in
    let added = new_none editors (λ (e : EditorContent). e.added) (λ k. refl) in
    let gone = new_none editors (λ (e : EditorContent). e.gone) (λ k. refl) in
    let refused = new_none editors (λ (e : EditorContent). e.refused) (λ k. refl) in
    let n = new_length editors in
    record {
      dels = t.dels;
      answers = omega (arith, t.answers, all, added, gone, refused);
      within = omega (arith, t.within, all, added);
      gone_most = omega (arith, t.gone, gone);
      least = omega (arith, t.least, added);
      most = omega (arith, t.most, added, n);
    }

-- the same sums, by equal numbers
pub sums-same : (files editors a g r a' g' r' : ℕ) → a ≡ a' → g ≡ g' → r ≡ r' → AreSums files editors a g r → AreSums files editors a' g' r'
sums-same files editors a g r a' g' r' ea eg er h = record {
  dels = h.dels;
  answers = omega (arith, h.answers, ea, eg, er);
  within = omega (arith, h.within, ea);
  gone_most = omega (arith, h.gone_most, eg);
  least = omega (arith, h.least, ea);
  most = omega (arith, h.most, ea);
}
