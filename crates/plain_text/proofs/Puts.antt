-- A word after all others keeps them rising, and tokens are one after another.
use Rattle.std.proofs.Common.{◌≡◌, ℕ, zero, suc, ◌+◌, ◌<◌, ◌≤◌, List, [], ◌∷◌, ◌++◌, length, take, slice_get, Some, ap, sym, subst, ◌∙◌, arith}
use Rattle.gcl_model.specs.Texts.{Word, Text, IsText, AreRisingBelow}
use Rattle.gcl_model.specs.Collections.{words_from}
use Rattle.std.proofs.lemmas.List.{length-append}
use Rattle.plain_text.specs.declared.entry.Entry.{Entry}
use Rattle.plain_text.specs.Entries.{words_in, AreCuts, IsKept}
use Rattle.plain_text.specs.Puts.{AreBelow, word, with_word}
use Rattle.plain_text.proofs.Entries.{words_in-put, cuts-put}

rising_put : (next low : ℕ) (words : List Word) (w : Word) → AreRisingBelow next low words → low ≤ w.address → w.address < next → AreBelow w.address words → AreRisingBelow next low (words ++ w ∷ [])
rising_put next low [] w r ge lt below = (ge, lt, tt)
rising_put next low (x ∷ xs) w r ge lt below = let h = below.0 in (r.0, r.1, rising_put next (x.address + 1) xs w r.2 (omega arith) lt below.1)

pub sound_put : (text : Text) (address : ℕ) (token : List ℕ) → IsText text → text.first ≤ address → address < text.next → AreBelow address text.words → IsText (with_word text address token)
sound_put text address token sound ge lt below = record {
  ordered = sound.ordered;
  in_range = sound.in_range;
  rising = rising_put text.next text.first text.words (word address token) sound.rising ge lt below;
}

-- the words so far are before the next address
pub are_below : (p : ℕ) (tokens : List (List ℕ)) (i q : ℕ) → p + i ≤ q → AreBelow q (words_from p (take i tokens))
are_below p [] zero q le = tt
are_below p [] (suc i) q le = tt
are_below p (t ∷ ts) zero q le = tt
are_below p (t ∷ ts) (suc i) q le = (omega arith, are_below (p + 1) ts i q (omega arith))

-- one token more
pub words_from-more : (p : ℕ) (tokens : List (List ℕ)) (i : ℕ) (t : List ℕ) → slice_get tokens i ≡ Some t → words_from p (take (suc i) tokens) ≡ words_from p (take i tokens) ++ word (p + i) t ∷ []
words_from-more p [] i t is = absurd cc
words_from-more p (x ∷ xs) zero t is = let same : x ≡ t = cc in let at : p ≡ p + 0 = omega arith in ap (λ y. word p y ∷ []) same ∙ ap (λ q. word q t ∷ []) at
words_from-more p (x ∷ xs) (suc i) t is =
    let at : p + 1 + i ≡ p + suc i = omega arith in
    ap (λ ws. word p x ∷ ws) (words_from-more (p + 1) xs i t is ∙ ap (λ q. words_from (p + 1) (take i xs) ++ word q t ∷ []) at)

-- the struct with one entry more, by what its two lists are then
module _ (first next : ℕ) (bytes token more_bytes : List ℕ) (entries more_entries : List Entry) (address end : ℕ)
    (same_bytes : more_bytes ≡ bytes ++ token) (at_end : end ≡ length more_bytes) (same_entries : more_entries ≡ entries ++ record { address = address; end = end } ∷ [])
    (kept : IsKept first next bytes entries) where
  at_sum : more_entries ≡ entries ++ record { address = address; end = length bytes + length token } ∷ []
  at_sum = same_entries ∙ ap (λ n. entries ++ record { address = address; end = n } ∷ []) (at_end ∙ ap length same_bytes ∙ length-append bytes token)

  words_put : words_in more_bytes 0 more_entries ≡ words_in bytes 0 entries ++ word address token ∷ []
  words_put = ap (λ b. words_in b 0 more_entries) same_bytes ∙ ap (words_in (bytes ++ token) 0) at_sum ∙ words_in-put bytes token 0 entries address kept.cuts

  pub kept_put : first ≤ address → address < next → AreBelow address (words_in bytes 0 entries) → IsKept first next more_bytes more_entries
  kept_put ge lt below = record {
    sound = subst (λ ws. IsText record { first = first; next = next; words = ws }) (sym words_put) (sound_put record { first = first; next = next; words = words_in bytes 0 entries } address token kept.sound ge lt below);
    cuts = subst (λ n. AreCuts n 0 more_entries) (sym (ap length same_bytes ∙ length-append bytes token))
        (subst (AreCuts (length bytes + length token) 0) (sym at_sum) (cuts-put (length bytes) (length token) 0 entries address kept.cuts));
  }

  pub text_put : (text : Text) → record { first = first; next = next; words = words_in bytes 0 entries } ≡ text →
      record { first = first; next = next; words = words_in more_bytes 0 more_entries } ≡ with_word text address token
  text_put text is = ap (λ ws. record { first = first; next = next; words = ws }) words_put ∙ ap (λ t. with_word t address token) is
