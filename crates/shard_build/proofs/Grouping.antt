-- The groups of the tokens so far, one token after the other.
use Rattle.std.proofs.Common.{◌≡◌, ℕ, ◌+◌, cond, List, [], ◌∷◌, ◌++◌, length, bytes_eq, Option, Some, refl, sym, ap, ◌∙◌, arith}
use Rattle.std.specs.Option.{IfSome, unwrap_or}
use Rattle.std.proofs.lemmas.List.{append_assoc, append-nil, length-append}
use Rattle.gcl_model.specs.Collections.{words_from, with_boundaries, file_start, file_end}
use Rattle.posting_code.specs.Postings.{RiseWithin}
use Rattle.shard_build.specs.Groups.{group_of}
use Rattle.shard_build.proofs.Places.{grouped_more, group_behind}

-- what is had for each token is its places among `<file!>` and those of all tokens that are not left, which end at an address
pub record AreGroups (base : ℕ) (all left : List (List ℕ)) (address : ℕ) (had : List ℕ → Option (List ℕ)) : Type 0 where
  pub taken : List (List ℕ)
  pub whole : taken ++ left ≡ all
  pub counted : address ≡ base + length taken
  pub grouped : (cs : List ℕ) → had cs ≡ group_of (words_from base (file_start ∷ taken)) cs

-- one address more for a token
abbrev pub grown : (List ℕ → Option (List ℕ)) → List ℕ → ℕ → List ℕ → Option (List ℕ)
grown had token address cs = cond (bytes_eq token cs) (Some (unwrap_or (had cs) [] ++ address ∷ [])) (had cs)

pub first_group : (base : ℕ) (all : List (List ℕ)) (had new : List ℕ → Option (List ℕ)) (start : List ℕ) → start ≡ file_start →
    ((cs : List ℕ) → had cs ≡ group_of [] cs) → ((cs : List ℕ) → new cs ≡ grown had start base cs) → AreGroups base all all base new
first_group base all had new start is none put = record {
  taken = [];
  whole = refl;
  counted = omega arith;
  grouped = λ cs. grouped_more base [] start cs base _ _ (omega arith) (none cs) (put cs) ∙ ap (λ t. group_of (words_from base (t ∷ [])) cs) is;
}

pub next_group : (base : ℕ) (all left now : List (List ℕ)) (token : List ℕ) (address : ℕ) (had new : List ℕ → Option (List ℕ)) → AreGroups base all left address had → left ≡ token ∷ now →
    ((cs : List ℕ) → new cs ≡ grown had token (address + 1) cs) → AreGroups base all now (address + 1) new
next_group base all left now token address had new groups is put =
    let at : address + 1 ≡ base + length (file_start ∷ groups.taken) = omega (arith, groups.counted) in
    let more = length-append groups.taken (token ∷ []) in
    record {
      taken = groups.taken ++ token ∷ [];
      whole = append_assoc groups.taken (token ∷ []) now ∙ ap (λ l. groups.taken ++ l) (sym is) ∙ groups.whole;
      counted = omega (arith, groups.counted, more);
      grouped = λ cs. grouped_more base (file_start ∷ groups.taken) token cs (address + 1) _ _ at (groups.grouped cs) (put cs);
    }

pub behind_groups : (base : ℕ) (all left : List (List ℕ)) (token : List ℕ) (address : ℕ) (had : List ℕ → Option (List ℕ)) → AreGroups base all left address had → IfSome (had token) (λ list. RiseWithin 0 (address + 1) list)
behind_groups base all left token address had groups =
    group_behind base (file_start ∷ groups.taken) token (address + 1) _ (omega (arith, groups.counted)) (groups.grouped token)

-- what is left ends where all tokens end
pub end_of_groups : (base : ℕ) (all left : List (List ℕ)) (address : ℕ) (had : List ℕ → Option (List ℕ)) → AreGroups base all left address had → address + length left ≡ base + length all
end_of_groups base all left address had groups =
    let whole = sym (length-append groups.taken left) ∙ ap length groups.whole in
    omega (arith, whole, groups.counted)

pub last_group : (base : ℕ) (all left : List (List ℕ)) (address : ℕ) (had new : List ℕ → Option (List ℕ)) (end : List ℕ) → AreGroups base all left address had → left ≡ [] → end ≡ file_end →
    ((cs : List ℕ) → new cs ≡ grown had end (address + 1) cs) → (cs : List ℕ) → new cs ≡ group_of (words_from base (with_boundaries all)) cs
last_group base all left address had new end groups none is put cs =
    let at : address + 1 ≡ base + length (file_start ∷ groups.taken) = omega (arith, groups.counted) in
    let whole : groups.taken ≡ all = sym (append-nil groups.taken) ∙ ap (λ l. groups.taken ++ l) (sym none) ∙ groups.whole in
    grouped_more base (file_start ∷ groups.taken) end cs (address + 1) _ _ at (groups.grouped cs) (put cs)
    ∙ ap (λ t. group_of (words_from base (file_start ∷ (groups.taken ++ t ∷ []))) cs) is
    ∙ ap (λ ts. group_of (words_from base (file_start ∷ (ts ++ file_end ∷ []))) cs) whole
