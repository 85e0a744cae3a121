-- The places of the tokens of consecutive words.
use Rattle.std.proofs.Common.{◌≡◌, ℕ, zero, suc, ◌+◌, ◌<◌, ◌≤◌, cond, List, [], ◌∷◌, ◌++◌, length, bytes_eq, get_or, Option, Some, inl, inr, refl, sym, ap, ◌∙◌, subst, arith, le_refl}
use Rattle.std.specs.Option.{IfSome, unwrap_or}
use Rattle.std.proofs.lemmas.Bool.{cases_Bool}
use Rattle.gcl_model.specs.Texts.{Word, places, AreRisingBelow}
use Rattle.gcl_model.specs.Collections.{words_from}
use Rattle.index_shard.specs.Tables.{RiseWithin, has_address, AreApart}
use Rattle.index_shard.proofs.ShardWords.{rise_wider, word, lacks_earlier, has_first, has_later, rising_places, rising_apart}
use Rattle.shard_build.specs.Groups.{unless_empty, group_of}

-- one token more is one word more
pub words_from-push : (p : ℕ) (tokens : List (List ℕ)) (token : List ℕ) → words_from p (tokens ++ token ∷ []) ≡ words_from p tokens ++ word (p + length tokens) token ∷ []
words_from-push p [] token = let e : p ≡ p + 0 = omega arith in ap (λ q. word q token ∷ []) e
words_from-push p (t ∷ ts) token =
    let e : p + 1 + length ts ≡ p + suc (length ts) = omega arith in
    ap (λ ws. word p t ∷ ws) (words_from-push (p + 1) ts token ∙ ap (λ q. words_from (p + 1) ts ++ word q token ∷ []) e)

places-push : (words : List Word) (p : ℕ) (t token : List ℕ) → places (words ++ word p t ∷ []) token ≡ cond (bytes_eq t token) (places words token ++ p ∷ []) (places words token)
places-push [] p t token = elim (cases_Bool (bytes_eq t token)) [ inl e ↦ rw e refl | inr e ↦ rw e refl ]
places-push (w ∷ ws) p t token =
    elim (cases_Bool (bytes_eq w.token token)) [
      | inl h ↦ elim (cases_Bool (bytes_eq t token)) [
        | inl e ↦ rw h (ap (λ ps. w.address ∷ ps) (places-push ws p t token) ∙ rw e refl)
        | inr e ↦ rw h (ap (λ ps. w.address ∷ ps) (places-push ws p t token) ∙ rw e refl)
      ]
      | inr h ↦ rw h (places-push ws p t token)
    ]

pub unless_empty-push : (ps : List ℕ) (p : ℕ) → unless_empty (ps ++ p ∷ []) ≡ Some (unwrap_or (unless_empty ps) [] ++ p ∷ [])
unless_empty-push [] p = refl
unless_empty-push (q ∷ qs) p = refl

-- one word more goes after the places of its token
pub group_of-push : (words : List Word) (p : ℕ) (t token : List ℕ) →
    group_of (words ++ word p t ∷ []) token ≡ cond (bytes_eq t token) (Some (unwrap_or (group_of words token) [] ++ p ∷ [])) (group_of words token)
group_of-push words p t token =
    elim (cases_Bool (bytes_eq t token)) [
      | inl e ↦ rw e (ap unless_empty (places-push words p t token ∙ rw e refl) ∙ unless_empty-push (places words token) p)
      | inr e ↦ rw e (ap unless_empty (places-push words p t token ∙ rw e refl))
    ]

-- consecutive words rise
words_from_rise : (tokens : List (List ℕ)) (p end : ℕ) → p + length tokens ≤ end → AreRisingBelow end p (words_from p tokens)
words_from_rise [] p end le = tt
words_from_rise (t ∷ ts) p end le = (le_refl p, omega (arith, le), words_from_rise ts (p + 1) end (omega (arith, le)))

pub places_rise : (tokens : List (List ℕ)) (p : ℕ) (token : List ℕ) → RiseWithin p (p + length tokens) (places (words_from p tokens) token)
places_rise tokens p token = rising_places (p + length tokens) p (words_from p tokens) token (words_from_rise tokens p (p + length tokens) (le_refl (p + length tokens)))

-- so the next address is after those of each token
pub group_behind : (p : ℕ) (tokens : List (List ℕ)) (token : List ℕ) (address : ℕ) (o : Option (List ℕ)) → address ≡ p + length tokens → o ≡ group_of (words_from p tokens) token → IfSome o (λ list. RiseWithin 0 address list)
group_behind p tokens token address o at is = subst (λ g. IfSome g (λ list. RiseWithin 0 address list)) (sym is) (if_there (places (words_from p tokens) token) (rise_wider p 0 (p + length tokens) address (places (words_from p tokens) token) (places_rise tokens p token) (omega arith) (omega (arith, at))))
  where
    if_there : (ps : List ℕ) → RiseWithin 0 address ps → IfSome (unless_empty ps) (λ list. RiseWithin 0 address list)
    if_there [] rise = tt
    if_there (q ∷ qs) rise = rise

-- an address is a place of its own token alone
pub place_tells : (tokens : List (List ℕ)) (p i : ℕ) (token : List ℕ) → i < length tokens → has_address (places (words_from p tokens) token) (p + i) ≡ bytes_eq (get_or tokens i []) token
place_tells [] p i token lt = absurd (omega arith)
place_tells (t ∷ ts) p zero token lt =
    let here : p + 0 ≡ p = omega arith in
    elim (cases_Bool (bytes_eq t token)) [
      | inl e ↦ rw e (ap (has_address (p ∷ places (words_from (p + 1) ts) token)) here ∙ has_first p (places (words_from (p + 1) ts) token))
      | inr e ↦ rw e (ap (has_address (places (words_from (p + 1) ts) token)) here ∙ lacks_earlier (p + 1) (p + 1 + length ts) (places (words_from (p + 1) ts) token) p (places_rise ts (p + 1) token) (omega arith))
    ]
place_tells (t ∷ ts) p (suc i) token lt =
    let there : p + suc i ≡ p + 1 + i = omega arith in
    let rest = ap (has_address (places (words_from (p + 1) ts) token)) there ∙ place_tells ts (p + 1) i token (omega arith) in
    elim (cases_Bool (bytes_eq t token)) [
      | inl e ↦ rw e (has_later p (places (words_from (p + 1) ts) token) (p + suc i) (omega arith) ∙ rest)
      | inr e ↦ rw e rest
    ]

-- two tokens share no place
pub places_apart : (tokens : List (List ℕ)) (p : ℕ) (a b : List ℕ) → (a ≡ b → ⊥) → AreApart (places (words_from p tokens) a) (places (words_from p tokens) b)
places_apart tokens p a b other = rising_apart (p + length tokens) p (words_from p tokens) a b (words_from_rise tokens p (p + length tokens) (le_refl (p + length tokens))) other

-- the list of a token after one token more
pub grouped_more : (p : ℕ) (tokens : List (List ℕ)) (token cs : List ℕ) (address : ℕ) (old new : Option (List ℕ)) → address ≡ p + length tokens → old ≡ group_of (words_from p tokens) cs →
    new ≡ cond (bytes_eq token cs) (Some (unwrap_or old [] ++ address ∷ [])) old → new ≡ group_of (words_from p (tokens ++ token ∷ [])) cs
grouped_more p tokens token cs address old new at was is =
    is
    ∙ ap (λ o. cond (bytes_eq token cs) (Some (unwrap_or o [] ++ address ∷ [])) o) was
    ∙ ap (λ a. cond (bytes_eq token cs) (Some (unwrap_or (group_of (words_from p tokens) cs) [] ++ a ∷ [])) (group_of (words_from p tokens) cs)) at
    ∙ sym (group_of-push (words_from p tokens) (p + length tokens) token cs)
    ∙ ap (λ words. group_of words cs) (sym (words_from-push p tokens token))
