-- A version by its parts.
use Rattle.std.proofs.Common.{◌≡◌, ℕ, List, ap, ◌∙◌}
use Rattle.live_version.specs.Contents.{SlotContent, VersionContent, version_content}

pub content_is : (v : VersionContent) (number edition first next next_id dels : ℕ) (slots : List SlotContent) → number ≡ v.number → edition ≡ v.edition → first ≡ v.first → next ≡ v.next → next_id ≡ v.next_id → dels ≡ v.dels → slots ≡ v.slots
    → version_content number edition first next next_id dels slots ≡ v
content_is v number edition first next next_id dels slots a b c d e f g =
    ap (λ n. version_content n edition first next next_id dels slots) a
    ∙ ap (λ n. version_content v.number n first next next_id dels slots) b
    ∙ ap (λ n. version_content v.number v.edition n next next_id dels slots) c
    ∙ ap (λ n. version_content v.number v.edition v.first n next_id dels slots) d
    ∙ ap (λ n. version_content v.number v.edition v.first v.next n dels slots) e
    ∙ ap (λ n. version_content v.number v.edition v.first v.next v.next_id n slots) f
    ∙ ap (λ n. version_content v.number v.edition v.first v.next v.next_id v.dels n) g
