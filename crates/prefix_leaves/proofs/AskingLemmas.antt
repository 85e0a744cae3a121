-- The text and the look-ups of leaves with prefix terms over a version.
use Rattle.std.proofs.Common.{◌≡◌, ◌∙◌, ℕ, List, ap, subst}
use Rattle.gcl_model.specs.Texts.{Text}
use Rattle.live_version.specs.Contents.{VersionContent, version_text}
use Rattle.prefix_places.specs.Places.{PrefixContent}
use Rattle.prefix_leaves.specs.Renaming.{renamed}
use Rattle.prefix_leaves.specs.Prefixes.{tokens_of, wide_most}

-- of the same prefix terms over the same version it is the same text
pub text_over : (p q : List PrefixContent) (u v : VersionContent) → p ≡ q → u ≡ v → renamed (tokens_of p) (version_text u) ≡ renamed (tokens_of q) (version_text v)
text_over p q u v same_terms same_version =
    ap (λ (l : List PrefixContent). renamed (tokens_of l) (version_text u)) same_terms ∙ ap (λ (w : VersionContent). renamed (tokens_of q) (version_text w)) same_version

-- and what holds of the text and the look-ups of one access holds of the same
pub holds_over : (P : Text → ℕ → Type 0) (p q : List PrefixContent) (u v : VersionContent) → p ≡ q → u ≡ v →
    P (renamed (tokens_of p) (version_text u)) (wide_most u) → P (renamed (tokens_of q) (version_text v)) (wide_most v)
holds_over P p q u v same_terms same_version holds =
    subst (λ (w : VersionContent). P (renamed (tokens_of q) (version_text w)) (wide_most w)) same_version
    (subst (λ (l : List PrefixContent). P (renamed (tokens_of l) (version_text u)) (wide_most u)) same_terms holds)
