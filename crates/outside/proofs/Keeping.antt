-- What an entry before all others makes of the contents.
use Rattle.std.proofs.Common.{◌≡◌, ℕ, Bool, true, false, cond, List, [], ◌∷◌, Option, Some, None, refl, sym, ap, inl, inr, find, bytes_eq, unwrap_or, subst}
use Rattle.std.proofs.Math.Path.{fun_ext}
use Rattle.std.proofs.lemmas.Bool.{cases_Bool}
use Rattle.std.proofs.lemmas.Slice.Eq.{bytes_eq-Decides}
use Rattle.std.specs.Option.{option_map}
use Rattle.outside.specs.Contents.{Contents, ChangesOnly, changed_at, content_of, sure_content_of}

-- the content of an entry, or of what is found after it
content_or : (b : Bool) (name bytes : List ℕ) (rest : Option (List ℕ × List ℕ)) →
    option_map (λ entry. entry.1) (cond b (Some (name, bytes)) rest) ≡ cond b (Some bytes) (option_map (λ entry. entry.1) rest)
content_or true name bytes rest = refl
content_or false name bytes rest = refl

-- the same, with no bytes if nothing is found
sure_content_or : (b : Bool) (name bytes : List ℕ) (rest : Option (List ℕ × List ℕ)) →
    Some (unwrap_or (option_map (λ entry. entry.1) (cond b (Some (name, bytes)) rest)) []) ≡ cond b (Some bytes) (Some (unwrap_or (option_map (λ entry. entry.1) rest) []))
sure_content_or true name bytes rest = refl
sure_content_or false name bytes rest = refl

-- an entry before all others changes the content under its name
pub content_of-first : (name bytes : List ℕ) (held : List (List ℕ × List ℕ)) → content_of ((name, bytes) ∷ held) ≡ changed_at name (Some bytes) (content_of held)
content_of-first name bytes held = fun_ext (λ other. content_or (bytes_eq name other) name bytes (find (λ entry. bytes_eq entry.0 other) held))

-- the same of files that hold no bytes under each other name
pub sure_content_of-first : (name bytes : List ℕ) (held : List (List ℕ × List ℕ)) → sure_content_of ((name, bytes) ∷ held) ≡ changed_at name (Some bytes) (sure_content_of held)
sure_content_of-first name bytes held = fun_ext (λ other. sure_content_or (bytes_eq name other) name bytes (find (λ entry. bytes_eq entry.0 other) held))

-- a name that gets the content that it has changes nothing
changed_at-same : (name : List ℕ) (contents : Contents) → changed_at name (contents name) contents ≡ contents
changed_at-same name contents = fun_ext (λ other. elim (cases_Bool (bytes_eq name other)) [
  | inl same ↦ rw same (ap contents ((bytes_eq-Decides name other).0 same))
  | inr apart ↦ rw apart refl
])

-- files that stay as they are change at most under that name
ChangesOnly-same : (name : List ℕ) (told : Option Contents) → ChangesOnly name told told
ChangesOnly-same name None = record { content = None; is = refl }
ChangesOnly-same name (Some contents) = record { content = contents name; is = ap Some (sym (changed_at-same name contents)) }

-- so do files that hold what they held
pub changes_none : (name : List ℕ) (before now : Option Contents) → now ≡ before → ChangesOnly name before now
changes_none name before now same = subst (λ told. ChangesOnly name before told) (sym same) (ChangesOnly-same name before)
