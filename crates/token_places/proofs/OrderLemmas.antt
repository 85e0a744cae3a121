-- Places rise from part to part.
use Rattle.std.proofs.Common.{ℕ, zero, suc, ◌+◌, ◌<◌, ◌≤◌, List, [], ◌∷◌, ◌++◌, length, drop, map, get_or, inl, inr, refl, sym, ap, subst, arith, length-drop}
use Rattle.std.proofs.lemmas.List.{map-append}
use Rattle.gcl_model.specs.Tokens.{Part, first_part}
use Rattle.gcl_model.proofs.Parts.{first_part_size}
use Rattle.word_tokens.proofs.PartLemmas.{part_of_fits}
use Rattle.token_places.specs.Places.{Place, Placed, stretch, placed_at, placed_of_parts, places_of, file_places}
use Rattle.token_places.specs.Laws.{GoesOn, AreInOrder, PlacesAreInOrder, IsNoEarlier, FilePlacesRise}

-- the first of the places begins at a byte or behind it
abbrev pub BeginsFrom : ℕ → List Place → Type 0
BeginsFrom at [] = Unit {0}
BeginsFrom at (b ∷ places) = at ≤ b.from

pub record Follows (n at : ℕ) (places : List Place) : Type 0 where
  pub begins : BeginsFrom at places
  pub ordered : AreInOrder n places

abbrev place_of : Placed → Place
place_of placed = placed.place

begins_earlier : (low at : ℕ) (places : List Place) → low ≤ at → BeginsFrom at places → BeginsFrom low places
begins_earlier low at [] le h = tt
begins_earlier low at (b ∷ places) le h = omega (arith, h)

-- the places of one part, and behind it those of the rest
part_follows : (n at to : ℕ) (tokens : List (List ℕ)) (more : List Place) → at < to → to ≤ n → Follows n to more → Follows n at (map place_of (placed_at (stretch at to) tokens) ++ more)
part_follows n at to [] more some fits h = record { begins = begins_earlier at to more (omega arith) h.begins; ordered = h.ordered }
part_follows n at to (token ∷ tokens) more some fits h =
    record { begins = omega arith; ordered = (some, fits, goes_on tokens, (part_follows n at to tokens more some fits h).ordered) }
  where
    first_of : (more : List Place) → BeginsFrom to more → GoesOn (stretch at to) more
    first_of [] h = tt
    first_of (b ∷ places) h = inl h

    goes_on : (tokens : List (List ℕ)) → GoesOn (stretch at to) (map place_of (placed_at (stretch at to) tokens) ++ more)
    goes_on [] = first_of more h.begins
    goes_on (token ∷ tokens) = inr refl

parts_follow : (n k at : ℕ) (bytes : List ℕ) → at + length bytes ≤ n → Follows n at (map place_of (placed_of_parts k at bytes))
parts_follow n zero at bytes le = record { begins = tt; ordered = tt }
parts_follow n (suc k) at [] le = record { begins = tt; ordered = tt }
parts_follow n (suc k) at (b ∷ bytes) le =
    let part : Part = first_part b bytes in
    let some : 1 ≤ part.size = first_part_size b bytes in
    let fit = part_of_fits (b ∷ bytes) (omega arith) in
    let fits : part.size ≤ length (b ∷ bytes) = fit.fits in
    let rest : List ℕ = drop part.size (b ∷ bytes) in
    let more : List Placed = placed_of_parts k (at + part.size) rest in
    subst (Follows n at) (sym (map-append place_of (placed_at (stretch at (at + part.size)) part.tokens) more))
    (part_follows n at (at + part.size) part.tokens (map place_of more) (omega arith) (omega arith)
    (parts_follow n k (at + part.size) rest (omega (arith, length-drop part.size (b ∷ bytes)))))

pub places_are_in_order : PlacesAreInOrder
places_are_in_order bytes = (parts_follow (length bytes) (length bytes) 0 bytes (omega arith)).ordered

-- each place begins and ends no earlier than the one before
abbrev OnTo : ℕ → Place → List Place → Type 0
OnTo n a [] = Unit {0}
OnTo n a (b ∷ places) = IsNoEarlier n a b

abbrev Rising : ℕ → List Place → Type 0
Rising n [] = Unit {0}
Rising n (a ∷ places) = IsNoEarlier n a a × OnTo n a places × Rising n places

later : (n : ℕ) (a b c : Place) → IsNoEarlier n a b → IsNoEarlier n b c → IsNoEarlier n a c
later n a b c h k = record { first = h.first; starts = omega (arith, h.starts, k.starts); ends = omega (arith, h.ends, k.ends); within = k.within }

rises_from : (n : ℕ) (a : Place) (places : List Place) → OnTo n a places → Rising n places → (j : ℕ) (d : Place) → j < length places → IsNoEarlier n a (get_or places j d)
rises_from n a [] on rising j d below = absurd (omega arith)
rises_from n a (b ∷ places) on rising zero d below = on
rises_from n a (b ∷ places) on rising (suc j) d below = later n a b (get_or places j d) on (rises_from n b places rising.1 rising.2 j d (omega arith))

rises : (n : ℕ) (places : List Place) → Rising n places → (i j : ℕ) (d : Place) → i ≤ j → j < length places → IsNoEarlier n (get_or places i d) (get_or places j d)
rises n [] rising i j d le below = absurd (omega arith)
rises n (a ∷ places) rising zero zero d le below = rising.0
rises n (a ∷ places) rising zero (suc j) d le below = rises_from n a places rising.1 rising.2 j d (omega arith)
rises n (a ∷ places) rising (suc i) zero d le below = absurd (omega arith)
rises n (a ∷ places) rising (suc i) (suc j) d le below = rises n places rising.2 i j d (omega arith) (omega arith)

-- after places in order comes the last one
with_end : (n : ℕ) (places : List Place) → AreInOrder n places → Rising n (places ++ stretch n n ∷ [])
with_end n [] h = (record { first = omega arith; starts = omega arith; ends = omega arith; within = omega arith }, tt, tt)
with_end n (a ∷ []) h = (
  record { first = omega (arith, h.0); starts = omega arith; ends = omega arith; within = h.1 },
  record { first = omega (arith, h.0); starts = omega (arith, h.0, h.1); ends = h.1; within = omega arith },
  with_end n [] tt,
)
with_end n (a ∷ b ∷ places) h = (
  record { first = omega (arith, h.0); starts = omega arith; ends = omega arith; within = h.1 },
  elim h.2 [
    | inl behind ↦ record { first = omega (arith, h.0); starts = omega (arith, h.0, behind); ends = omega (arith, h.3.0, behind); within = h.3.1 }
    | inr same ↦ record { first = omega (arith, h.0); starts = omega (arith, ap (λ p. p.from) same); ends = omega (arith, ap (λ p. p.to) same); within = h.3.1 }
  ],
  with_end n (b ∷ places) h.3,
)

pub file_places_rise : FilePlacesRise
file_places_rise bytes =
    let n : ℕ = length bytes in
    let all : List Place = places_of bytes ++ stretch n n ∷ [] in
    rises n (file_places bytes) (record { first = omega arith; starts = omega arith; ends = omega arith; within = omega arith }, from_start all (with_end n (places_of bytes) (places_are_in_order bytes)), with_end n (places_of bytes) (places_are_in_order bytes))
  where
    from_start : (places : List Place) → Rising (length bytes) places → OnTo (length bytes) (stretch 0 0) places
    from_start [] rising = tt
    from_start (b ∷ places) rising =
        let within : b.to ≤ length bytes = rising.0.within in
        record { first = omega arith; starts = omega arith; ends = omega arith; within = within }
