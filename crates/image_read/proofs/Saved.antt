-- What was read can be saved.
use Rattle.std.proofs.Common.{ℕ, ◌^◌, ◌<◌, bytes_eq, List, [], ◌∷◌, length, inl, inr, refl, sym, subst, arith}
use Rattle.std.specs.List.{AllByRecursion}
use Rattle.std.proofs.lemmas.Bool.{cases_Bool}
use Rattle.std.proofs.lemmas.Slice.Eq.{bytes_eq-Decides}
use Rattle.gcl_model.specs.Texts.{Word, places}
use Rattle.gcl_model.specs.Collections.{words_of}
use Rattle.gcl_model.proofs.Lists.{all_weaker}
use Rattle.index_shard.specs.Tables.{TermEntry, postings_of}
use Rattle.live_version.specs.Contents.{VersionContent}
use Rattle.image_file.specs.declared.format.Format.{Format}
use Rattle.image_file.specs.Images.{AreShort, CanBeSaved, most_term}
use Rattle.image_read.specs.Answers.{IsImageOf}

-- each word is somewhere
words_stand : (ws : List Word) → AllByRecursion (λ (w : Word). 0 < length (places ws w.token)) ws
words_stand [] = tt
words_stand (w ∷ ws) = (
  rw ((bytes_eq-Decides w.token w.token).1 refl) (omega arith),
  all_weaker (λ (v : Word). 0 < length (places ws v.token)) (λ (v : Word). 0 < length (places (w ∷ ws) v.token)) (λ v some. longer v some) ws (words_stand ws),
)
  where
    longer : (v : Word) → 0 < length (places ws v.token) → 0 < length (places (w ∷ ws) v.token)
    longer v some = elim (cases_Bool (bytes_eq w.token v.token)) [
      | inl h ↦ rw h (omega arith)
      | inr h ↦ rw h some
    ]

-- a term with postings is short enough
term_small : (format : Format) (n : ℕ) → n < most_term format → n < 2 ^ 56
term_small Format.One n lt = omega (arith, lt)
term_small Format.Two n lt = lt

short_term : (format : Format) (terms : List TermEntry) (token : List ℕ) → AreShort format terms → 0 < length (postings_of terms token) → length token < 2 ^ 56
short_term format [] token short some = absurd (omega arith)
short_term format (e ∷ es) token short some = elim (cases_Bool (bytes_eq e.term token)) [
  | inl h ↦ subst (λ t. length t < 2 ^ 56) ((bytes_eq-Decides e.term token).0 h) (term_small format (length e.term) short.0)
  | inr h ↦ short_term format es token short.1 (rw h at some)
]

-- what was read is a sound collection without a token that is too long
pub read_saves : (bytes : List ℕ) (v : VersionContent) → IsImageOf bytes v → CanBeSaved v
read_saves bytes v is =
    let format = is.0 in
    let c = is.1 in
    let spelled = is.2.spelled in (
      c,
      record {
        stands = is.3.stands;
        sound = is.2.said.sound;
        short = all_weaker (λ (w : Word). 0 < length (places (words_of c) w.token)) (λ (w : Word). length w.token < 2 ^ 56)
            (λ w some. short_term format spelled.0 w.token spelled.1.short (subst (λ ps. 0 < length ps) (sym (spelled.1.terms.places w.token)) some)) (words_of c) (words_stand (words_of c));
      },
    )
