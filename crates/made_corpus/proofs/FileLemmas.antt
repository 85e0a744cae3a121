-- What a load of made files gives, and what a keep makes of them.
use Rattle.std.proofs.Common.{◌≡◌, ℕ, ◌+◌, ◌<◌, Bool, true, false, cond, List, ◌∷◌, ◌++◌, length, take, drop, Option, Some, refl, sym, ap, ◌∙◌, arith, bytes_eq, find}
use Rattle.std.specs.Option.{option_map, option_or}
use Rattle.std.proofs.Math.Path.{fun_ext}
use Rattle.std.proofs.lemmas.List.{take-append-drop, length-take-le}
use Rattle.outside.specs.Contents.{Contents, BeginsContent, changed_at}
use Rattle.made_corpus.specs.MadeFiles.{kept_over}

-- the first bytes of a content
pub cut-long : (contents : Contents) (most : ℕ) (name whole out : List ℕ) → contents name ≡ Some whole → most < length whole → out ≡ take (most + 1) whole →
    (length out ≡ most + 1) × BeginsContent contents name out
cut-long contents most name whole out is long cut = (
  ap length cut ∙ length-take-le (most + 1) whole (omega arith),
  record {
    rest = drop (most + 1) whole;
    is = is ∙ ap Some (sym (ap (λ part. part ++ drop (most + 1) whole) cut ∙ take-append-drop (most + 1) whole));
  },
)

-- the bytes of an entry, or what is found after it
kept_or : (b : Bool) (name bytes : List ℕ) (rest : Option (List ℕ × List ℕ)) (made : Option (List ℕ)) →
    option_or (option_map (λ entry. entry.1) (cond b (Some (name, bytes)) rest)) made ≡ cond b (Some bytes) (option_or (option_map (λ entry. entry.1) rest) made)
kept_or true name bytes rest made = refl
kept_or false name bytes rest made = refl

-- an entry before all others changes the content under its name
pub kept_over-first : (name bytes : List ℕ) (kept : List (List ℕ × List ℕ)) (made : Contents) → kept_over ((name, bytes) ∷ kept) made ≡ changed_at name (Some bytes) (kept_over kept made)
kept_over-first name bytes kept made = fun_ext (λ other. kept_or (bytes_eq name other) name bytes (find (λ entry. bytes_eq entry.0 other) kept) (made other))
